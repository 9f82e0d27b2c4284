use Rattle.std.proofs.Common.{length, ap, subst, sym, ◌∙◌}
use Rattle.live.proofs.Turning.{written}
use Rattle.watches.specs.Groups.{AreEach, AreWhole, Notes}
use Rattle.watches.specs.Keeping.{AreKeptBut, HaveNoted, Kept, followed}
use Rattle.watches.proofs.Whole.{look_same, notes_kept, notes_look, notes_noted, same_whole}
use Rattle.watches.proofs.following.Following.note.Goals as goal

pub invariant_of-self : goal.invariant_of-self
invariant_of-self c =
    let old = c.args.self.now in
    let new = c.note_all.new.list in
    let items = c.self.inside.list.items in
    let same = c.deref_mut.ensures.value ∙ c.self.view_is in
    let R : Kept → Kept → Type 0 = Notes c.args.view.now c.args.rows.now.schema c.args.rows.now.rows c.args.edit in
    let each : AreEach R old new = subst (λ ks. AreEach R ks new) same c.note_all.ensures in
    let back = written c.self.inside.list.len new items (sym c.self.inside.list.ok.0) (each.long ∙ ap length (sym c.self.view_is) ∙ sym c.self.inside.list.ok.0) in
    subst AreWhole (sym back) (same_whole old new (notes_look c.args.view.now c.args.rows.now.schema c.args.rows.now.rows c.args.edit old new each) (subst AreWhole c.self.view_is c.self.invariant))

pub returns-clause-same : goal.returns-clause-same
returns-clause-same c =
    let old = c.args.self.now in
    let new = c.note_all.new.list in
    let items = c.self.inside.list.items in
    let same = c.deref_mut.ensures.value ∙ c.self.view_is in
    let R : Kept → Kept → Type 0 = Notes c.args.view.now c.args.rows.now.schema c.args.rows.now.rows c.args.edit in
    let each : AreEach R old new = subst (λ ks. AreEach R ks new) same c.note_all.ensures in
    let back = written c.self.inside.list.len new items (sym c.self.inside.list.ok.0) (each.long ∙ ap length (sym c.self.view_is) ∙ sym c.self.inside.list.ok.0) in
    ap followed back ∙ look_same old new (notes_look c.args.view.now c.args.rows.now.schema c.args.rows.now.rows c.args.edit old new each)

pub returns-clause-noted : goal.returns-clause-noted
returns-clause-noted c =
    let old = c.args.self.now in
    let new = c.note_all.new.list in
    let items = c.self.inside.list.items in
    let same = c.deref_mut.ensures.value ∙ c.self.view_is in
    let R : Kept → Kept → Type 0 = Notes c.args.view.now c.args.rows.now.schema c.args.rows.now.rows c.args.edit in
    let each : AreEach R old new = subst (λ ks. AreEach R ks new) same c.note_all.ensures in
    let back = written c.self.inside.list.len new items (sym c.self.inside.list.ok.0) (each.long ∙ ap length (sym c.self.view_is) ∙ sym c.self.inside.list.ok.0) in
    subst (HaveNoted c.args.view.now c.args.rows.now.schema c.args.rows.now.rows c.args.edit) (sym back) (notes_noted c.args.view.now c.args.rows.now.schema c.args.rows.now.rows c.args.edit old new each)

pub returns-clause-kept : goal.returns-clause-kept
returns-clause-kept c views h =
    let old = c.args.self.now in
    let new = c.note_all.new.list in
    let items = c.self.inside.list.items in
    let same = c.deref_mut.ensures.value ∙ c.self.view_is in
    let R : Kept → Kept → Type 0 = Notes c.args.view.now c.args.rows.now.schema c.args.rows.now.rows c.args.edit in
    let each : AreEach R old new = subst (λ ks. AreEach R ks new) same c.note_all.ensures in
    let back = written c.self.inside.list.len new items (sym c.self.inside.list.ok.0) (each.long ∙ ap length (sym c.self.view_is) ∙ sym c.self.inside.list.ok.0) in
    subst (AreKeptBut c.args.view.now views) (sym back) (notes_kept c.args.view.now c.args.rows.now.schema c.args.rows.now.rows c.args.edit old new each views h)
