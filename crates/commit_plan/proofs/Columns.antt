-- A plain column after it was settled.
use Rattle.std.proofs.Common.{◌≡◌, List, [], ◌∷◌, length, Bool, true, false, cond, refl, ap, sym, subst, ◌∙◌, arith}
use Rattle.mk_value.specs.declared.span.Span.{Span}
use Rattle.mk_value.specs.Heading.{Domain}
use Rattle.mk_value.specs.Data.{Datum}
use Rattle.mk_value.specs.Tables.{IsPlainDomain}
use Rattle.tables.specs.Homes.{Home, no_home, numbers, strings, tables, PlainColumn}
use Rattle.tables.specs.Shapes.{IsHomeOf}
use Rattle.tables.specs.Rests.{blocks_of}
use Rattle.tables.specs.Blocks.{blocks_of_values, has_home, is_homed}
use Rattle.recovery.specs.Commits.{blocks_at, column_blocks}
use Rattle.recovery.proofs.PlainParts.{IsPlainPart}
use Rattle.commit_plan.specs.Following.{due_of, home_at, settled}

-- the home of a column whose blocks were placed
pub record IsSettled (e : Domain) (values : List Datum) (spans : List Span) (home : Home) : Type 0 where
  pub has : has_home home ≡ true
  pub at : blocks_of home ≡ spans
  pub shaped : IsHomeOf home e values

pub home_at-is : (e : Domain) (values : List Datum) (spans : List Span) → IsPlainDomain e → length spans ≡ length (blocks_of_values e values) → IsSettled e values spans (home_at e spans)
home_at-is Domain.integer values [] kind e = absurd (omega (arith, e))
home_at-is Domain.integer values (s ∷ []) kind e = record { has = refl; at = refl; shaped = tt }
home_at-is Domain.integer values (s ∷ t ∷ spans) kind e = absurd (omega (arith, e))
home_at-is Domain.long values [] kind e = absurd (omega (arith, e))
home_at-is Domain.long values (s ∷ []) kind e = record { has = refl; at = refl; shaped = tt }
home_at-is Domain.long values (s ∷ t ∷ spans) kind e = absurd (omega (arith, e))
home_at-is Domain.text values [] kind e = absurd (omega (arith, e))
home_at-is Domain.text values (s ∷ []) kind e = absurd (omega (arith, e))
home_at-is Domain.text values (s ∷ t ∷ memos) kind e = record { has = refl; at = refl; shaped = omega (arith, e) }
home_at-is Domain.bytes values [] kind e = absurd (omega (arith, e))
home_at-is Domain.bytes values (s ∷ []) kind e = absurd (omega (arith, e))
home_at-is Domain.bytes values (s ∷ t ∷ memos) kind e = record { has = refl; at = refl; shaped = omega (arith, e) }
home_at-is (Domain.relation g) values spans kind e = absurd kind

-- a column after it was settled: it has a home of its shape, and its blocks are those that it had or those that it was due
pub data IsSettledColumn (c : PlainColumn) (spans : List Span) : Type 0 where
  kept : is_homed c ≡ true → due_of c ≡ [] → settled c spans ≡ c → IsSettledColumn c spans
  placed : is_homed c ≡ false → due_of c ≡ blocks_of_values c.domain c.values → blocks_of c.home ≡ [] → column_blocks (settled c spans) ≡ blocks_at spans (due_of c) → blocks_of (settled c spans).home ≡ spans
      → is_homed (settled c spans) ≡ true → IsPlainPart (settled c spans) → IsSettledColumn c spans

no_blocks : (h : Home) → has_home h ≡ false → blocks_of h ≡ []
no_blocks no_home e = refl
no_blocks (numbers block) e = absurd cc
no_blocks (strings sizes short memos) e = absurd cc
no_blocks (tables rows) e = refl

pub settled-is : (c : PlainColumn) (spans : List Span) → IsPlainPart c → length spans ≡ length (due_of c) → IsSettledColumn c spans
settled-is c spans plain long = by_home (is_homed c) refl
  where
    made : PlainColumn
    made = record { domain = c.domain; values = c.values; home = home_at c.domain spans }

    by_home : (b : Bool) → is_homed c ≡ b → IsSettledColumn c spans
    by_home true e = kept e (ap (λ (b : Bool). cond b [] (blocks_of_values c.domain c.values)) e) (ap (λ (b : Bool). cond b c made) e)
    by_home false e =
        let due : due_of c ≡ blocks_of_values c.domain c.values = ap (λ (b : Bool). cond b [] (blocks_of_values c.domain c.values)) e in
        let is : settled c spans ≡ made = ap (λ (b : Bool). cond b c made) e in
        let at = home_at-is c.domain c.values spans plain.kind (long ∙ ap length due) in
        placed e due (no_blocks c.home e)
        (ap column_blocks is ∙ ap (λ ss. blocks_at ss (blocks_of_values c.domain c.values)) at.at ∙ ap (λ bs. blocks_at spans bs) (sym due))
        (ap (λ (d : PlainColumn). blocks_of d.home) is ∙ at.at)
        (ap is_homed is ∙ at.has)
        (subst IsPlainPart (sym is) (record { kind = plain.kind; shaped = at.shaped; fit = plain.fit }))
