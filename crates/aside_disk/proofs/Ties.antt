-- How the tie goes on while the lower disk works, and while the upper one takes a step.
use Rattle.std.proofs.Common.{◌≡◌, ℕ, ◌≤◌, ◌⊎◌, ⊎_elim, List, ◌∷◌, length, sym, ◌∙◌, ap, subst, arith}
use Rattle.host_io.specs.Disk.{IsImage}
use Rattle.host_io.specs.Outside.{Moment, Outside, Left, Goes, moment}
use Rattle.host_io.proofs.Moments.{Left-goes, Left-kept, Left-now, moment-goes, steps}
use Rattle.aside_disk.specs.Tie.{ShowsLeft, ShowsAt, Tie}

module _ {means : List ℕ → List ℕ → Type 0} {upper_since : ℕ} where
  -- a moment of the lower disk that shows the upper one as it stands now
  shows_now : (upper : Outside) → upper_since ≤ moment upper → (at : Moment) (image : List ℕ) (n : ℕ) → ShowsAt means upper.now at → IsImage at.disk image → n ≡ length at.said → ShowsLeft means upper_since upper image n
  shows_now upper began at image n holds is said =
      let shows = holds.images image is in
      record {
        file = shows.file;
        means_it = shows.means_it;
        left = subst (λ (k : ℕ). Left upper_since upper shows.file k) (sym (said ∙ ap length holds.said)) (Left-now upper_since upper shows.file began shows.is);
      }

module _ {means : List ℕ → List ℕ → Type 0} {lower_since upper_since : ℕ} where
  -- the lower disk worked, and the upper one stands as it stood
  pub tie_stays : {old new upper : Outside} → Tie means lower_since upper_since old upper → Goes (ShowsAt means upper.now) old new
      → ShowsAt means upper.now new.now → Tie means lower_since upper_since new upper
  tie_stays {old} {new} {upper} tie goes now = record {
    lower_began = let b = tie.lower_began in let m = moment-goes goes in omega (arith, b, m);
    upper_began = tie.upper_began;
    said = sym now.said;
    now = now.images;
    left = λ image n left. ⊎_elim (λ before. tie.left image n before) (λ by. shows_now upper tie.upper_began by.at image n by.holds by.is_image by.said) (Left-goes lower_since image n goes left);
  }

  -- The lower disk worked, and the upper one took a step: each moment shows it as it was before or as it is after.
  pub tie_steps : {old new before after : Outside} → Tie means lower_since upper_since old before
      → after.past ≡ before.now ∷ before.past
      → Goes (λ at. ShowsAt means before.now at ⊎ ShowsAt means after.now at) old new
      → ShowsAt means after.now new.now → Tie means lower_since upper_since new after
  tie_steps {old} {new} {before} {after} tie past goes now = record {
    lower_began = let b = tie.lower_began in let m = moment-goes goes in omega (arith, b, m);
    upper_began = began;
    said = sym now.said;
    now = now.images;
    left = λ image n left. ⊎_elim (λ earlier. kept image n (tie.left image n earlier))
        (λ by. ⊎_elim (λ was. kept image n (shows_now before tie.upper_began by.at image n was by.is_image by.said)) (λ is. shows_now after began by.at image n is by.is_image by.said) by.holds)
        (Left-goes lower_since image n goes left);
  }
    where
      step : Goes (λ at. Unit {0}) before after
      step = steps past tt

      began : upper_since ≤ moment after
      began = let b = tie.upper_began in let m = moment-goes step in omega (arith, b, m)

      kept : (image : List ℕ) (n : ℕ) → ShowsLeft means upper_since before image n → ShowsLeft means upper_since after image n
      kept image n shows = record { file = shows.file; means_it = shows.means_it; left = Left-kept upper_since shows.file n step shows.left }
