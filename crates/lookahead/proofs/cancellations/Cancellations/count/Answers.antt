use Rattle.std.proofs.Common.{◌≡◌, w64, to_z, of_z, rules}
use Rattle.lsp_messages.specs.declared.message.Id.TheVariants.{Number, Name}
use Rattle.lookahead.proofs.Names.{raised_name}
use Rattle.lookahead.proofs.cancellations.Cancellations.count.Goals as goal

pub raise-requires : goal.raise-requires
raise-requires c = c.requires (Number (to_z w64 (of_z w64 c.in-Number.number)))

pub raise-requires-in-Name : goal.raise-requires-in-Name
raise-requires-in-Name c = c.requires (Name c.in_ok-clone-in-Name.field-0)

pub returns-in_ok-raise-in-Name-clause-ok : goal.returns-in_ok-raise-in-Name-clause-ok
returns-in_ok-raise-in-Name-clause-ok c =
    let e : c.args.id.now ≡ Name c.in_ok-clone-in-Name.field-0 = first_of (cc, search rules) in
    raised_name c.args.self.now c.raise-in-Name.new.counts c.in_ok-clone-in-Name.field-0 c.args.id.now e c.in_ok-raise-in-Name.ensures.ok
