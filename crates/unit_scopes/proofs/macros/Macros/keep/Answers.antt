use Rattle.std.proofs.Common.{◌≡◌, ℕ, ◌+◌, Result, Ok, Err, Some, OnOk, OnErr, rules, ap, ◌∙◌, subst}
use Rattle.std.specs.Prelude.{if◌then◌else◌}
use Rattle.syntax_tree.specs.declared.meaning.Meaning.{Meaning}
use Rattle.unit_scopes.specs.Macros.{macro_in, numbered, same_key, Keeps}
use Rattle.unit_scopes.specs.declared.macros.Macro.{Macro}
use Rattle.unit_scopes.specs.declared.macros.Macros.{Macros}
use Rattle.unit_scopes.proofs.MacroLaws.{given_same}
use Rattle.unit_scopes.proofs.macros.Macros.keep.Goals as goal

kept : {X E : Type 0} (r : Result X E) (old new : Macros) (last form : ℕ) (m : Meaning) (k : Macro) → OnOk r (Keeps (record old { editions = last }) new form m k) → OnOk r (Keeps old new form m k)
kept (Ok x) old new last form m k h = λ f n. h f n ∙ ap (λ o. if same_key form m f n then Some k else o) (given_same old last f n)
kept (Err e) old new last form m k h = tt

same : {X E : Type 0} (r : Result X E) (old new : Macros) (last : ℕ) → OnErr r ((f : ℕ) (m : Meaning) → macro_in new f m ≡ macro_in (record old { editions = last }) f m) → OnErr r ((f : ℕ) (m : Meaning) → macro_in new f m ≡ macro_in old f m)
same (Ok x) old new last h = tt
same (Err e) old new last h = λ f n. h f n ∙ given_same old last f n

pub returns-clause-kept : goal.returns-clause-kept
returns-clause-kept c =
    let old = c.args.self.now in
    let n = c.in-Some.edition in
    let told : n ≡ old.editions + 1 = search rules in
    subst (λ (e : ℕ). OnOk c.keep_as.result (Keeps old c.keep_as.new.self c.args.form c.args.meaning (numbered c.args.kept e))) told
    (kept c.keep_as.result old c.keep_as.new.self n c.args.form c.args.meaning (numbered c.args.kept n) c.keep_as.ensures.kept)

pub returns-clause-err : goal.returns-clause-err
returns-clause-err c = same c.keep_as.result c.args.self.now c.keep_as.new.self c.in-Some.edition c.keep_as.ensures.err
