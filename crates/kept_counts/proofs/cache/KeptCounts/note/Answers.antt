use Rattle.std.proofs.Common.{subst, sym, ◌∙◌, length, ap}
use Rattle.live.proofs.Turning.{written}
use Rattle.kept_counts.specs.Following.{AreEach, Notes}
use Rattle.kept_counts.specs.Keeping.{AllHaveNoted, AreCountedBut, AreCountedOver, Counted}
use Rattle.kept_counts.proofs.Holding.{notes_kept, notes_noted}
use Rattle.kept_counts.proofs.cache.KeptCounts.note.Goals as goal

pub note_all-requires-clause-kept : goal.note_all-requires-clause-kept
note_all-requires-clause-kept c =
    subst (AreCountedOver c.args.view.now c.args.rows.now.schema c.args.rows.now.rows) (sym (c.deref_mut.ensures.value ∙ c.self.view_is)) c.requires.kept

pub returns-clause-noted : goal.returns-clause-noted
returns-clause-noted c =
    let view = c.args.view.now in
    let schema = c.args.rows.now.schema in
    let rows = c.args.rows.now.rows in
    let old = c.args.self.now in
    let new = c.note_all.new.list in
    let items = c.self.inside.list.items in
    let same = c.deref_mut.ensures.value ∙ c.self.view_is in
    let R : Counted → Counted → Type 0 = Notes view schema rows c.args.edit in
    let each : AreEach R old new = subst (λ ks. AreEach R ks new) same c.note_all.ensures in
    let back = written c.self.inside.list.len new items (sym c.self.inside.list.ok.0) (each.long ∙ ap length (sym c.self.view_is) ∙ sym c.self.inside.list.ok.0) in
    subst (AllHaveNoted view schema rows c.args.edit) (sym back) (notes_noted view schema rows c.args.edit old new each)

pub returns-clause-kept : goal.returns-clause-kept
returns-clause-kept c views h =
    let view = c.args.view.now in
    let schema = c.args.rows.now.schema in
    let rows = c.args.rows.now.rows in
    let old = c.args.self.now in
    let new = c.note_all.new.list in
    let items = c.self.inside.list.items in
    let same = c.deref_mut.ensures.value ∙ c.self.view_is in
    let R : Counted → Counted → Type 0 = Notes view schema rows c.args.edit in
    let each : AreEach R old new = subst (λ ks. AreEach R ks new) same c.note_all.ensures in
    let back = written c.self.inside.list.len new items (sym c.self.inside.list.ok.0) (each.long ∙ ap length (sym c.self.view_is) ∙ sym c.self.inside.list.ok.0) in
    subst (AreCountedBut view views) (sym back) (notes_kept view schema rows c.args.edit old new each views h)
