-- The first offence of the pieces of an expression, as the walk finds it, is the first offence against the grammar.
use Rattle.std.proofs.Common.{◌≡◌, ℕ, false, List, [], ◌∷◌, Option, Some, None, sym, ap, ◌∙◌}
use Rattle.mk_value.specs.Tokens.{Token}
use Rattle.tokens.specs.Cutting.{Piece}
use Rattle.tokens.specs.Depths.{Offends, OpensTooDeep, syntax, too_deep}
use Rattle.tokens.specs.Fronts.{tokens_in}
use Rattle.expr_text.specs.Grammar.{DeepTokens, QueryIn, QueryTokens}
use Rattle.expr_text.specs.Queries.{max_operators}
use Rattle.expr_text.specs.Walk.{Goal, a_query, run}
use Rattle.expr_text.specs.declared.error.ExprError.TheVariants.{Memory, Syntax, TooDeep}
use Rattle.expr_text.proofs.Deeper.{deeper_query, query_raised}
use Rattle.expr_text.proofs.Limited as limited
use Rattle.expr_text.proofs.Limited.{GoesWhole, Limited}
use Rattle.expr_text.proofs.Meaning.{Meant}
use Rattle.expr_text.proofs.Walking.{walk, whole_walks}
use Rattle.expr_text.proofs.Whole.{single}

abbrev pub start : List Goal
start = a_query max_operators ∷ []

abbrev goals_of : ℕ → List Goal
goals_of depth = a_query depth ∷ []

all_goes : (depth : ℕ) (tokens : List Token) → QueryIn depth tokens → GoesWhole (a_query depth ∷ []) tokens
all_goes depth tokens q =
    let whole = whole_walks q.0 depth q.1.whole in
    record { left = whole.left; walks = ap (λ ts. walk ts false (a_query depth ∷ [])) q.1.is ∙ whole.walks; met = whole.met }

-- expressions are what the one goal means
queries_limited : Limited QueryIn goals_of
queries_limited = record {
  complete = all_goes;
  sound = λ depth tokens m. single (a_query depth) tokens m;
  raises = λ k depth. query_raised k depth;
  deeper = λ k depth tokens q. (q.0, record { whole = deeper_query q.0 depth k q.1.whole; is = q.1.is });
}

pub too_deep_found : (pieces : List Piece) (end place : ℕ) → OpensTooDeep QueryTokens DeepTokens pieces place → run pieces end start ≡ Some (TooDeep place)
too_deep_found pieces end place o = limited.too_deep_found QueryIn goals_of queries_limited pieces end place o

pub none_deep : (pieces : List Piece) (end place : ℕ) → run pieces end start ≡ Some (Syntax place) → (other : ℕ) → OpensTooDeep QueryTokens DeepTokens pieces other → ⊥
none_deep pieces end place e other o = limited.none_deep QueryIn goals_of queries_limited pieces end place e other o

pub none_deep_whole : (pieces : List Piece) (end : ℕ) → run pieces end start ≡ None → (other : ℕ) → OpensTooDeep QueryTokens DeepTokens pieces other → ⊥
none_deep_whole pieces end e other o = limited.none_deep_whole QueryIn goals_of queries_limited pieces end e other o

pub offends_syntax : (pieces : List Piece) (end place : ℕ) → run pieces end start ≡ Some (Syntax place) → Offends QueryTokens DeepTokens pieces None end (syntax place)
offends_syntax pieces end place e = limited.offends_syntax QueryIn goals_of queries_limited pieces end place e

pub offends_deep : (pieces : List Piece) (flaw : Option ℕ) (end place : ℕ) → run pieces end start ≡ Some (TooDeep place) → Offends QueryTokens DeepTokens pieces flaw end (too_deep place)
offends_deep pieces flaw end place e = limited.offends_deep QueryIn goals_of queries_limited pieces flaw end place e

pub never_memory : (pieces : List Piece) (end : ℕ) → run pieces end start ≡ Some Memory → ⊥
never_memory pieces end e = limited.never_memory pieces end start e

pub whole_found : (pieces : List Piece) (end : ℕ) → run pieces end start ≡ None → QueryTokens (tokens_in pieces)
whole_found pieces end e = limited.whole_found QueryIn goals_of queries_limited pieces end e
