-- The keys of a sorting that is given none.
use Rattle.std.proofs.Common.{◌≡◌, ℕ, suc, ◌+◌, ◌<◌, Bool, true, false, not, cond, List, [], ◌∷◌, ◌++◌, length, get_or, map, take, All, Option, Some, None, refl, ap, sym, ◌∙◌, arith}
use Rattle.std.specs.List.{filter, find}
use Rattle.std.specs.Option.{option_map, option_or}
use Rattle.std.proofs.lemmas.List.{map-append, append-nil}
use Rattle.std.proofs.lemmas.List.Elements.{All-map, filter_more}
use Rattle.mk_value.specs.Heading.{Attribute, HaveDistinctNames}
use Rattle.relations.specs.Fitting.{is_view}
use Rattle.relations.specs.Keys.{ArePlain}
use Rattle.relations.specs.Refusals.{a_view, absent, sort_due}
use Rattle.relations.specs.Rows.{domain_of, has}
use Rattle.relations.specs.Sorting.{all_keys, keys_or_all}
use Rattle.relations.specs.declared.criteria.Key.{Key}
use Rattle.relations.specs.declared.error.DerivedError.{DerivedError}
use Rattle.relations.specs.declared.error.DerivedError.TheVariants.{NoProp, KeyIsView}
use Rattle.relations.proofs.PlainKeys.{plain_keys}
use Rattle.live.specs.Putting.{as_watch_error, spelled}
use Rattle.live.specs.Watching.{IsAsked, op_due}
use Rattle.live.specs.declared.op.WatchOp.{WatchOp}
use Rattle.live.specs.declared.op.WatchOp.TheVariants.{Range, Sort}

abbrev to_key : Attribute → Key
to_key a = record { prop = a.name; down = false }

abbrev plain : Attribute → Bool
plain a = not (is_view a.domain)

-- one property further
module _ (schema : List Attribute) (i : ℕ) (x : Attribute) (p : i < length schema) (read : x ≡ get_or schema i x) where
  further : all_keys (take (i + 1) schema) ≡ all_keys (take i schema) ++ map to_key (cond (plain x) (x ∷ []) [])
  further =
      ap (map to_key) (filter_more plain schema i x p ∙ ap (λ (a : Attribute). filter plain (take i schema) ++ cond (plain a) (a ∷ []) []) (sym read))
      ∙ map-append to_key (filter plain (take i schema)) (cond (plain x) (x ∷ []) [])

  pub key_skipped : is_view x.domain ≡ true → all_keys (take i schema) ≡ all_keys (take (i + 1) schema)
  key_skipped e = sym (further ∙ ap (λ b. all_keys (take i schema) ++ map to_key (cond (not b) (x ∷ []) [])) e ∙ append-nil (all_keys (take i schema)))

  pub key_pushed : is_view x.domain ≡ false → all_keys (take i schema) ++ to_key x ∷ [] ≡ all_keys (take (i + 1) schema)
  key_pushed e = sym (further ∙ ap (λ b. all_keys (take i schema) ++ map to_key (cond (not b) (x ∷ []) [])) e)

-- where each item passes, none is refused
none_found : {X E : Type 0} (e : X → E) (test : X → Bool) (xs : List X) → All (λ x. test x ≡ false) xs → option_map e (find test xs) ≡ None
none_found e test [] all = refl
none_found e test (x ∷ xs) all =
    ap (λ b. option_map e (cond b (Some x) (find test xs))) (all 0 x (omega arith)) ∙ none_found e test xs (λ k d p. all (suc k) d (omega arith))

pub plain_names : (schema : List Attribute) (keys : List Key) → ArePlain schema keys → sort_due keys schema ≡ None
plain_names schema keys h =
    let prop : Key → List ℕ = λ k. k.prop in
    let names = map prop keys in
    let one : absent schema names ≡ None = none_found NoProp (λ name. not (has schema name)) names (All-map (λ name. not (has schema name) ≡ false) prop keys (λ i d p. ap not (h i d p).present)) in
    let two : a_view schema names ≡ None = none_found KeyIsView (λ name. is_view (domain_of schema name)) names (All-map (λ name. is_view (domain_of schema name) ≡ false) prop keys (λ i d p. (h i d p).plain)) in
    ap (λ o. option_or o (option_or (a_view schema names) None)) one ∙ ap (λ o. option_or o None) two

-- an operator that may be asked may be asked once it is spelled
pub spelled_asked : (schema : List Attribute) (op : WatchOp) → HaveDistinctNames schema → IsAsked schema op → IsAsked schema (spelled schema op)
spelled_asked schema (Range criteria) distinct asked = asked
spelled_asked schema (Sort keys) distinct asked = plain_names schema (keys_or_all schema keys) (plain_keys schema keys distinct asked)

-- where no refusal is due it may be asked
no_refusal : (o : Option DerivedError) → None ≡ option_map as_watch_error o → o ≡ None
no_refusal None e = refl
no_refusal (Some x) e = cc

pub asked_where : (schema : List Attribute) (op : WatchOp) → None ≡ option_map as_watch_error (op_due schema op) → IsAsked schema op
asked_where schema op e = no_refusal (op_due schema op) e
