-- The documents gone through have other uris.
use Rattle.std.proofs.Common.{◌≡◌, ◌<◌, ℕ, length, refl, sym, ap, ◌∙◌, subst, arith, true, false}
use Rattle.std.proofs.lemmas.Option.{slice_get_read}
use Rattle.std.specs.Str.{bytes_eq}
use Rattle.program_answers.proofs.OpenLaws.{HaveOther, no_number, number_there, one_other}
use Rattle.program_answers.proofs.open.number_of.Goals as goal

pub returns-then-eq-clause-exact : goal.returns-then-eq-clause-exact
returns-then-eq-clause-exact c = λ ds are.
    let cs = c.args.documents.now in
    let n = c.loop-number.number in
    let d = c.index-documents-number.result in
    let below : n < length cs = omega arith in
    let same : bytes_eq d.uri c.args.uri.now ≡ true = ap (λ u. bytes_eq u c.args.uri.now) (sym c.as_str.ensures) ∙ (sym c.eq.ensures ∙ c.if-eq.true) in
    number_there ds cs are c.args.uri.now n d (slice_get_read cs (length cs) n d refl below c.index-documents-number.is) same c.loop-number.invariant

pub loop-number-preserved : goal.loop-number-preserved
loop-number-preserved c =
    let cs = c.args.documents.now in
    let n = c.loop-number.number in
    let d = c.index-documents-number.result in
    let below : n < length cs = omega arith in
    let differs : bytes_eq d.uri c.args.uri.now ≡ false = ap (λ u. bytes_eq u c.args.uri.now) (sym c.as_str.ensures) ∙ (sym c.eq.ensures ∙ c.if-eq.false) in
    one_other cs n c.args.uri.now d (slice_get_read cs (length cs) n d refl below c.index-documents-number.is) differs c.loop-number.invariant

pub returns-clause-exact : goal.returns-clause-exact
returns-clause-exact c = λ ds are.
    let cs = c.args.documents.now in
    let all : c.loop-number.number ≡ length cs = omega arith in
    no_number ds cs are c.args.uri.now (subst (λ (n : ℕ). HaveOther cs n c.args.uri.now) all c.loop-number.invariant)
