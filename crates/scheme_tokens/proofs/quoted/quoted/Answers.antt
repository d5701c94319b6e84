use Rattle.std.proofs.Common.{rules, Err, ap, ◌∙◌, sym, arith, ◌≤◌, ◌<◌, ◌-◌, ℕ, List, length}
use Rattle.std.specs.Str.{chars}
use Rattle.std.specs.String.{string_bytes}
use Rattle.std.specs.Option.{option_to_list}
use Rattle.std.proofs.lemmas.Str.{chars-nil}
use Rattle.std.proofs.lemmas.Bool.{eq-eqb, ne_eqb}
use Rattle.scheme_tokens.specs.Mirror.Words.{byte_count}
use Rattle.scheme_tokens.specs.Mirror.Quoted.{elements}
use Rattle.scheme_tokens.specs.Mirror.Told.{fault_of}
use Rattle.scheme_tokens.proofs.Fronts.{byte_count-chars}
use Rattle.scheme_tokens.proofs.QuotedLaws.{onto, onto-none, closes, goes_on, fails, unclosed}
use Rattle.scheme_tokens.proofs.quoted.quoted.Goals as goal

pub loop-c-init : goal.loop-c-init
loop-c-init c =
    let cs = chars c.args.text.now in
    record {
      utf8 = c.utf8.text;
      within = omega arith;
      goes = (
        byte_count cs,
        omega (arith, byte_count-chars c.args.text.now c.utf8.text),
        ap (λ (q : List ℕ). onto q (elements (byte_count cs) c.args.close cs)) (ap chars c.new-value.ensures.bytes ∙ chars-nil) ∙ onto-none (elements (byte_count cs) c.args.close cs),
      );
    }

pub returns-then-c-close-clause-gives : goal.returns-then-c-close-clause-gives
returns-then-c-close-clause-gives c =
    let goes = c.loop-c.invariant.goes in
    let some : 0 < goes.0 = omega (arith, c.in-Some.ensures.within, goes.1) in
    sym goes.2 ∙ closes goes.0 c.args.close c.in-Some.c (chars (string_bytes c.loop-c.value)) (chars c.loop-c.rest.now) (chars c.in-Some.more.now) some c.in-Some.ensures.some
    (eq-eqb c.in-Some.c c.args.close c.if-c-close.true)

pub loop-c-preserved : goal.loop-c-preserved
loop-c-preserved c =
    let goes = c.loop-c.invariant.goes in
    let some : 0 < goes.0 = omega (arith, c.in-Some.ensures.within, goes.1) in
    let fewer : length c.in-Ok.behind.now ≤ goes.0 - 1 = omega (arith, c.in-Ok.ensures.within, c.in-Some.ensures.within, goes.1) in
    record {
      utf8 = search rules;
      within = omega (arith, c.in-Ok.ensures.within, c.in-Some.ensures.within, c.loop-c.invariant.within);
      goes = (
        goes.0 - 1,
        fewer,
        ap (λ (q : List ℕ). onto q (elements (goes.0 - 1) c.args.close (chars c.in-Ok.behind.now))) c.in_ok-push_meant-in-Ok.ensures
            ∙ goes_on goes.0 c.args.close c.in-Some.c (chars (string_bytes c.loop-c.value)) (option_to_list c.in-Ok.meant) (chars c.loop-c.rest.now) (chars c.in-Some.more.now) (chars c.in-Ok.behind.now)
            some c.in-Some.ensures.some (ne_eqb c.in-Some.c c.args.close c.if-c-close.false) c.in-Ok.ensures.gives
            ∙ goes.2,
      );
    }

pub returns-in-Err-clause-gives : goal.returns-in-Err-clause-gives
returns-in-Err-clause-gives c =
    let goes = c.loop-c.invariant.goes in
    let some : 0 < goes.0 = omega (arith, c.in-Some.ensures.within, goes.1) in
    sym goes.2 ∙ fails goes.0 c.args.close c.in-Some.c (chars (string_bytes c.loop-c.value)) (chars c.loop-c.rest.now) (chars c.in-Some.more.now) (fault_of c.in-Err.fault) some c.in-Some.ensures.some
    (ne_eqb c.in-Some.c c.args.close c.if-c-close.false) c.in-Err.ensures.gives

pub returns-clause-gives : goal.returns-clause-gives
returns-clause-gives c =
    let goes = c.loop-c.invariant.goes in
    sym goes.2 ∙ unclosed goes.0 c.args.close (chars (string_bytes c.loop-c.value)) (chars c.loop-c.rest.now) c.in_default.ensures.none ∙ ap (λ f. Err f) (sym c.open_at.ensures)
