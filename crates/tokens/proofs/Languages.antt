-- What the languages of literals and paths say to one that has them as parts: how their tokens begin, and that literals are no fronts of one another.
use Rattle.std.proofs.Common.{◌≡◌, ◌<◌, ◌^◌, ℕ, pos, List, [], ◌∷◌, ◌++◌, refl, sym, subst, ◌∙◌}
use Rattle.mk_value.specs.Data.{Datum, integer, long, text, bytes, relation}
use Rattle.mk_value.specs.Literals.{rows_tokens, tokens_of}
use Rattle.mk_value.specs.Names.{IsName}
use Rattle.mk_value.specs.Tokens as plain
use Rattle.mk_value.specs.Tokens.{Token, number, sign, word}
use Rattle.tokens.specs.Literals.{IsLiteral, LiteralTokens, max_braces}
use Rattle.tokens.specs.Paths.{PathTokens, slash}
use Rattle.tokens.proofs.Braces.{literal_some}
use Rattle.tokens.proofs.Levels.{literal_tokens_free}
use Rattle.tokens.proofs.Listing.{nil_cons, same_head}
use Rattle.tokens.proofs.Routes.{one_step, path_then}

-- no literal is a proper front of another
pub literal_prefix_free : (a b x y : List Token) → LiteralTokens a → LiteralTokens b → a ++ x ≡ b ++ y → (a ≡ b) × (x ≡ y)
literal_prefix_free = literal_tokens_free

-- a literal has a token
pub literal_not_empty : LiteralTokens [] → ⊥
literal_not_empty l = let some = literal_some l.0 in nil_cons some.0 some.1 (l.1.is ∙ some.2)

-- what may be its first: a number, a text, a byte string or an opening brace
abbrev pub BeginsLiteral : Token → Type 0
BeginsLiteral (plain.word name) = ⊥
BeginsLiteral (plain.number z) = Unit {0}
BeginsLiteral (plain.text content) = Unit {0}
BeginsLiteral (plain.bytes content) = Unit {0}
BeginsLiteral (plain.sign s) = s ≡ 123

pub literal_begins : (t : Token) (rest : List Token) → LiteralTokens (t ∷ rest) → BeginsLiteral t
literal_begins t rest l = first l.0 l.1.whole l.1.is
  where
    first : (d : Datum) → IsLiteral max_braces d → t ∷ rest ≡ tokens_of d → BeginsLiteral t
    first (integer z) whole e = absurd whole
    first (long z) whole e = subst BeginsLiteral (sym (same_head t (plain.number z) rest [] e)) tt
    first (text content) whole e = subst BeginsLiteral (sym (same_head t (plain.text content) rest [] e)) tt
    first (bytes content) whole e = subst BeginsLiteral (sym (same_head t (plain.bytes content) rest [] e)) tt
    first (relation rows) whole e = subst BeginsLiteral (sym (same_head t (sign 123) rest (rows_tokens rows ++ (sign 125 ∷ [])) e)) refl

-- a path has a token, and its first is a name
pub path_not_empty : PathTokens [] → ⊥
path_not_empty p = nil_cons (word p.0.name) _ p.1.is

pub path_begins_with_word : (t : Token) (rest : List Token) → PathTokens (t ∷ rest) → (name : List ℕ) × IsName name × (t ≡ word name)
path_begins_with_word t rest p = (p.0.name, p.1.whole.name, same_head t (word p.0.name) rest _ p.1.is)

-- a path may go on with a step
pub path_goes_on : (tokens : List Token) (row : ℕ) (prop : List ℕ) → PathTokens tokens → row < 2 ^ 63 → IsName prop
    → PathTokens (tokens ++ (sign slash ∷ number (pos row) ∷ sign slash ∷ word prop ∷ []))
path_goes_on tokens row prop p small named =
    subst (λ x. PathTokens (x ++ (sign slash ∷ number (pos row) ∷ sign slash ∷ word prop ∷ []))) (sym p.1.is) (path_then p.0 p.1.whole (sign slash ∷ number (pos row) ∷ sign slash ∷ word prop ∷ []) (one_step row prop small named))
