-- What the places of pieces say of where reading stopped.
use Rattle.std.proofs.Common.{◌≡◌, ℕ, ◌+◌, ◌<◌, ◌≤◌, List, [], ◌∷◌, ◌++◌, length, map, take, drop, get_or, refl, ap, sym, subst, ◌∙◌, append_assoc, append-nil, arith, ⊎_elim}
use Rattle.std.proofs.lemmas.List.{take-append-drop, take_all, take-map, length-map, take_more}
use Rattle.mk_value.specs.Tokens.{Token}
use Rattle.mk_value.proofs.Walks.{drop_read, map_read, same_default}
use Rattle.tokens.specs.Cutting.{Piece}
use Rattle.tokens.specs.Fronts.{Language, IsFront, IsFirstWrong, EndsEarly, Stops, tokens_in}
use Rattle.tokens.specs.Meanings.{piece_of, pieces_of, token_of, tokens_of_pieces}
use Rattle.tokens.specs.declared.token.Piece as program
use Rattle.tokens.proofs.Stopping.{PrefixFree}

pub tokens_in_pieces : (pieces : List program.Piece) → tokens_in (pieces_of pieces) ≡ tokens_of_pieces pieces
tokens_in_pieces [] = refl
tokens_in_pieces (p ∷ pieces) = ap (λ x. token_of p.token ∷ x) (tokens_in_pieces pieces)

abbrev token_in : Piece → Token
token_in p = p.token

module _ (language : Language) (pieces : List Piece) (count : ℕ) (p : Piece) (within : count < length pieces) (is : p ≡ get_or pieces count p) where
  split : pieces ≡ take count pieces ++ p ∷ drop (count + 1) pieces
  split = sym (take-append-drop count pieces) ∙ ap (λ x. take count pieces ++ x) (drop_read pieces count p within is)

  front : take count (tokens_in pieces) ≡ tokens_in (take count pieces)
  front = take-map token_in count pieces

  longer : take (count + 1) (tokens_in pieces) ≡ tokens_in (take count pieces) ++ p.token ∷ []
  longer =
      take-map token_in (count + 1) pieces ∙ ap (map token_in) (take_more pieces count p within) ∙ map_push (take count pieces) (get_or pieces count p)
      ∙ ap (λ q. tokens_in (take count pieces) ++ q ∷ []) (ap token_in (sym is))
    where
      map_push : (xs : List Piece) (q : Piece) → map token_in (xs ++ q ∷ []) ≡ map token_in xs ++ q.token ∷ []
      map_push [] q = refl
      map_push (x ∷ xs) q = ap (λ y. x.token ∷ y) (map_push xs q)

  -- reading stopped before the last piece
  pub stuck_wrong : Stops language (tokens_in pieces) count → IsFirstWrong language pieces p.place
  stuck_wrong s = record {
    front = take count pieces;
    piece = p;
    rest = drop (count + 1) pieces;
    split = split;
    goes_on = subst (IsFront language) front s.goes_on;
    wrong = λ goes. ⊎_elim
        (λ e. let long = length-map pieces token_in in omega (arith, e, long, within))
        (λ none. none (subst (IsFront language) (sym longer) goes))
        s.wrong;
    at = refl;
  }

  -- something whole was read before the last piece
  pub more_wrong : PrefixFree language → language (take count (tokens_in pieces)) → IsFirstWrong language pieces p.place
  more_wrong free whole = record {
    front = take count pieces;
    piece = p;
    rest = drop (count + 1) pieces;
    split = split;
    goes_on = ([], subst language (front ∙ sym (append-nil (tokens_in (take count pieces)))) whole);
    wrong = λ goes. none p.token goes.0 (free (tokens_in (take count pieces)) ((tokens_in (take count pieces) ++ p.token ∷ []) ++ goes.0) (p.token ∷ goes.0) []
        (subst language front whole) goes.1 (sym (append_assoc (tokens_in (take count pieces)) (p.token ∷ []) goes.0) ∙ sym (append-nil ((tokens_in (take count pieces) ++ p.token ∷ []) ++ goes.0)))).1;
    at = refl;
  }
    where
      none : (t : Token) (xs : List Token) → t ∷ xs ≡ [] → ⊥
      none t xs e = cc

-- reading stopped behind the last piece
pub stuck_early : (language : Language) (pieces : List Piece) (count size : ℕ) → length pieces ≤ count → Stops language (tokens_in pieces) count → EndsEarly language pieces size size
stuck_early language pieces count size past s =
    let long = length-map pieces token_in in
    let all : take count (tokens_in pieces) ≡ tokens_in pieces = take_all count (tokens_in pieces) (omega (arith, long, past)) in
    record {
      goes_on = subst (IsFront language) all s.goes_on;
      unfinished = λ whole. s.unfinished (subst language (sym all) whole);
      at = refl;
    }

-- the same of pieces of the program; the piece at the count, read with any default
module _ (language : Language) (pieces : List program.Piece) (count : ℕ) where
  read_piece : (d : program.Piece) → count < length pieces → piece_of (get_or pieces count d) ≡ get_or (pieces_of pieces) count (piece_of (get_or pieces count d))
  read_piece d within = map_read piece_of pieces count (get_or pieces count d) within (same_default pieces count d (get_or pieces count d) within)

  in_pieces : count < length pieces → count < length (pieces_of pieces)
  in_pieces within = let long = length-map pieces piece_of in omega (arith, long, within)

  pub piece_stuck_wrong : (d : program.Piece) → count < length pieces → Stops language (tokens_of_pieces pieces) count → IsFirstWrong language (pieces_of pieces) ((get_or pieces count d).place)
  piece_stuck_wrong d within s =
      stuck_wrong language (pieces_of pieces) count (piece_of (get_or pieces count d)) (in_pieces within) (read_piece d within)
      (subst (λ x. Stops language x count) (sym (tokens_in_pieces pieces)) s)

  pub piece_more_wrong : (d : program.Piece) → count < length pieces → PrefixFree language → language (take count (tokens_of_pieces pieces)) → IsFirstWrong language (pieces_of pieces) ((get_or pieces count d).place)
  piece_more_wrong d within free whole =
      more_wrong language (pieces_of pieces) count (piece_of (get_or pieces count d)) (in_pieces within) (read_piece d within) free
      (subst (λ x. language (take count x)) (sym (tokens_in_pieces pieces)) whole)

  pub pieces_stuck_early : (size : ℕ) → length pieces ≤ count → Stops language (tokens_of_pieces pieces) count → EndsEarly language (pieces_of pieces) size size
  pieces_stuck_early size past s =
      let long = length-map pieces piece_of in
      stuck_early language (pieces_of pieces) count size (omega (arith, long, past)) (subst (λ x. Stops language x count) (sym (tokens_in_pieces pieces)) s)
