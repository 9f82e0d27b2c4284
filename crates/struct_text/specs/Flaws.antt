-- The flaws that the parser's walk tests for at each place.
use Rattle.std.specs.Prelude.{ℕ, ◌+◌, Bool, true, false, cond, ◌||◌, ◌&&◌, ◌==◌, nat_lt, List, [], ◌∷◌, length, Option, Some, None, take_while}
use Rattle.mk_value.specs.Limits.{max_name, max_properties, max_depth}
use Rattle.mk_value.specs.Names.{is_name_byte, same_bytes}
use Rattle.struct_text.specs.Bytes.{open_bracket, is_floating_letter}
use Rattle.struct_text.specs.declared.error.StructError.{StructError}
use Rattle.struct_text.specs.declared.error.StructError.TheVariants.{Syntax, Floating, Repeated, TooDeep, TooMany, TooLong}
use Rattle.struct_text.specs.Walk.{State, name_start, in_name, kind, after, stuck, step}

abbrev pub is_stuck : State → Bool
is_stuck stuck = true
is_stuck (name_start brackets) = false
is_stuck (in_name name brackets) = false
is_stuck (kind brackets) = false
is_stuck (after brackets) = false

abbrev pub is_whole : State → Bool
is_whole (after []) = true
is_whole (after (names ∷ outer)) = false
is_whole (name_start brackets) = false
is_whole (in_name name brackets) = false
is_whole (kind brackets) = false
is_whole stuck = false

-- the letter of a floating kind stands here
abbrev pub floats : State → ℕ → Bool
floats (kind brackets) b = is_floating_letter b
floats (name_start brackets) b = false
floats (in_name name brackets) b = false
floats (after brackets) b = false
floats stuck b = false

-- depth 9 opens here
abbrev pub deepens : State → ℕ → Bool
deepens (in_name name brackets) b = (b == open_bracket) && (length brackets == max_depth)
deepens (name_start brackets) b = false
deepens (kind brackets) b = false
deepens (after brackets) b = false
deepens stuck b = false

-- the brackets are full
abbrev pub is_full : State → Bool
is_full (name_start (names ∷ outer)) = length names == max_properties
is_full (name_start []) = false
is_full (in_name name brackets) = false
is_full (kind brackets) = false
is_full (after brackets) = false
is_full stuck = false

-- a name of more than 31 bytes begins here
abbrev pub is_long : State → List ℕ → Bool
is_long (name_start brackets) rest = nat_lt max_name (length (take_while is_name_byte rest))
is_long (in_name name brackets) rest = false
is_long (kind brackets) rest = false
is_long (after brackets) rest = false
is_long stuck rest = false

abbrev pub has_name : List (List ℕ) → List ℕ → Bool
has_name [] word = false
has_name (name ∷ names) word = same_bytes name word || has_name names word

-- a name that stands before in the same brackets begins here
abbrev pub repeats : State → List ℕ → Bool
repeats (name_start (names ∷ outer)) rest = has_name names (take_while is_name_byte rest)
repeats (name_start []) rest = false
repeats (in_name name brackets) rest = false
repeats (kind brackets) rest = false
repeats (after brackets) rest = false
repeats stuck rest = false

-- the first of six tests that holds, as a refusal at the place
abbrev pub first_of_six : (wrong floating deep many long repeated : Bool) → ℕ → Option StructError
first_of_six wrong floating deep many long repeated p =
    cond wrong (Some (Syntax p)) (cond floating (Some (Floating p)) (cond deep (Some (TooDeep p)) (cond many (Some (TooMany p)) (cond long (Some (TooLong p)) (cond repeated (Some (Repeated p)) None)))))

-- the flaw at one place: in this state, before these bytes
unfoldable pub flaw : State → List ℕ → ℕ → Option StructError
flaw s [] p = cond (is_whole s) None (Some (Syntax p))
flaw s (b ∷ bs) p = first_of_six (is_stuck (step s b)) (floats s b) (deepens s b) (is_full s) (is_long s (b ∷ bs)) (repeats s (b ∷ bs)) p

abbrev pub or_else : Option StructError → Option StructError → Option StructError
or_else None later = later
or_else (Some e) later = Some e

-- the first flaw from this place on
abbrev pub first_flaw : State → ℕ → List ℕ → Option StructError
first_flaw s p [] = flaw s [] p
first_flaw s p (b ∷ bs) = or_else (flaw s (b ∷ bs) p) (first_flaw (step s b) (p + 1) bs)
