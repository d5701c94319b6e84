use Rattle.std.proofs.Common.{ℕ, ◌<◌, Some, subst, sym}
use Rattle.syntax_tree.specs.Numbered.{number_of}
use Rattle.scope_env.specs.Environment.{with_added}
use Rattle.scope_env.specs.Resolved.{reached}
use Rattle.scope_env.proofs.Added.{sound_with, counted_with, uses_with}
use Rattle.scope_env.proofs.Walk.{set_out, finished_local, finished_written, finished_inserted, walked_on, less_deep}
use Rattle.scope_env.proofs.env.Env.meant.Goals as goal

pub loop-meaning-init : goal.loop-meaning-init
loop-meaning-init c =
    set_out c.args.symbols.now (with_added c.args.self.now c.args.added) c.args.ident c.args.scope c.requires.ident
    (subst (λ (count : ℕ). c.args.scope < count) (sym (counted_with c.args.self.now c.args.added)) c.requires.scope)

pub returns-in-Some-clause-value : goal.returns-in-Some-clause-value
returns-in-Some-clause-value c = λ i at.
    sym (finished_local c.args.symbols.now (with_added c.args.self.now c.args.added) (Some c.args.scope) c.args.ident c.told_apart.ensures.idents (reached c.args.self.now c.args.scope c.loop-meaning.last) c.loop-meaning.at c.loop-meaning.invariant c.in-Some.meaning c.in-Some.ensures i at).value

pub returns-in-Some-clause-meaning : goal.returns-in-Some-clause-meaning
returns-in-Some-clause-meaning c = λ given uses d unit form i at.
    (finished_local c.args.symbols.now (with_added c.args.self.now c.args.added) (Some c.args.scope) c.args.ident c.told_apart.ensures.idents (reached c.args.self.now c.args.scope c.loop-meaning.last) c.loop-meaning.at c.loop-meaning.invariant c.in-Some.meaning c.in-Some.ensures i at).meaning given uses d unit form

pub returns-in-Written-clause-value : goal.returns-in-Written-clause-value
returns-in-Written-clause-value c = λ i at.
    sym (finished_written c.args.symbols.now (with_added c.args.self.now c.args.added) (Some c.args.scope) c.args.ident c.told_apart.ensures.idents (reached c.args.self.now c.args.scope c.loop-meaning.last) c.loop-meaning.at c.loop-meaning.invariant c.told_apart.ensures.symbols
    c.in-Written.unit c.in-Written.symbol c.own.result c.unwrap_or.result c.in-Written.ensures.ident c.in_default.ensures c.own.ensures c.unwrap_or.ensures i at).value

pub returns-in-Written-clause-meaning : goal.returns-in-Written-clause-meaning
returns-in-Written-clause-meaning c = λ given uses d unit form i at.
    (finished_written c.args.symbols.now (with_added c.args.self.now c.args.added) (Some c.args.scope) c.args.ident c.told_apart.ensures.idents (reached c.args.self.now c.args.scope c.loop-meaning.last) c.loop-meaning.at c.loop-meaning.invariant c.told_apart.ensures.symbols
    c.in-Written.unit c.in-Written.symbol c.own.result c.unwrap_or.result c.in-Written.ensures.ident c.in_default.ensures c.own.ensures c.unwrap_or.ensures i at).meaning given uses d unit form

pub returns-in-Some-own-clause-value : goal.returns-in-Some-own-clause-value
returns-in-Some-own-clause-value c = λ i at.
    sym (finished_inserted c.args.symbols.now (with_added c.args.self.now c.args.added) (Some c.args.scope) c.args.ident c.told_apart.ensures.idents (reached c.args.self.now c.args.scope c.loop-meaning.last) c.loop-meaning.at c.loop-meaning.invariant c.in-Inserted.id c.in-Inserted.number c.in-Inserted.ensures.ident c.in_default.ensures c.in-Some-own.meaning c.in-Some-own.ensures i at).value

pub returns-in-Some-own-clause-meaning : goal.returns-in-Some-own-clause-meaning
returns-in-Some-own-clause-meaning c = λ given uses d unit form i at.
    (finished_inserted c.args.symbols.now (with_added c.args.self.now c.args.added) (Some c.args.scope) c.args.ident c.told_apart.ensures.idents (reached c.args.self.now c.args.scope c.loop-meaning.last) c.loop-meaning.at c.loop-meaning.invariant c.in-Inserted.id c.in-Inserted.number c.in-Inserted.ensures.ident c.in_default.ensures c.in-Some-own.meaning c.in-Some-own.ensures i at).meaning given uses d unit form

pub loop-meaning-smaller : goal.loop-meaning-smaller
loop-meaning-smaller c = less_deep c.args.symbols.now c.loop-meaning.at c.in-Inserted.id c.in-Inserted.number c.loop-meaning.invariant.within c.in-Inserted.ensures.ident

pub loop-meaning-preserved : goal.loop-meaning-preserved
loop-meaning-preserved c =
    walked_on c.args.symbols.now (with_added c.args.self.now c.args.added) (Some c.args.scope) c.args.ident c.told_apart.ensures.idents (reached c.args.self.now c.args.scope c.loop-meaning.last) c.loop-meaning.at c.loop-meaning.invariant c.in-Inserted.id c.in-Inserted.number c.in-Inserted.ensures.ident c.in_default.ensures
    (sound_with c.args.self.now c.args.added c.sound.ensures) c.in-Inserted.ensures.placed c.in_default-own.ensures
    (reached c.args.self.now c.args.scope (Some c.in-Inserted.number)) (uses_with c.args.self.now c.args.added (number_of c.in-Inserted.number))
