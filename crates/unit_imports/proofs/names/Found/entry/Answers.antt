use Rattle.std.proofs.Common.{◌≡◌, sym, ap, ◌∙◌, arith}
use Rattle.std.specs.Prelude.{slice_get}
use Rattle.unit_imports.proofs.UsedLaws.{entry_placed, entry_none}
use Rattle.unit_imports.proofs.names.Found.entry.Goals as goal

pub returns-in_default : goal.returns-in_default
returns-in_default c = sym (entry_none c.args.name.now 0 c.args.self.now.entries.now (sym (c.in_default.ensures ∙ c.args.self.now.placed c.args.name.now)))

pub entry_at-requires : goal.entry_at-requires
entry_at-requires c =
    let r = entry_placed c.args.name.now 0 c.args.self.now.entries.now c.in-Some.place (sym (c.in-Some.ensures ∙ c.args.self.now.placed c.args.name.now)) in omega (arith, r.is, r.within)

pub returns : goal.returns
returns c =
    let es = c.args.self.now.entries.now in
    let r = entry_placed c.args.name.now 0 es c.in-Some.place (sym (c.in-Some.ensures ∙ c.args.self.now.placed c.args.name.now)) in
    let same : c.in-Some.place ≡ r.place = omega (arith, r.is) in
    sym c.entry_at.ensures ∙ ap (slice_get es) same ∙ r.entry
