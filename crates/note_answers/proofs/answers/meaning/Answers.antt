use Rattle.std.proofs.Common.{[]}
use Rattle.unit_scopes.specs.Chains.{chain_in, uses_in, given_in}
use Rattle.note_answers.proofs.RootLaws.{root_meaning}
use Rattle.note_answers.proofs.answers.meaning.Goals as goal

pub returns : goal.returns
returns c = λ v r i can is.
    let s = v.state in
    let e = can.rests in
    root_meaning s can.places can.entries c.args.work.now.symbols c.resolve.result i (c.resolve.ensures.meaning (given_in s) (uses_in s) (chain_in s []) s.unit s.form i is e.env.given (e.env.scopes c.args.units.now.root [] e.root))
