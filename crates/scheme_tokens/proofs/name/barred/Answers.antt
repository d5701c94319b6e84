use Rattle.std.proofs.Common.{List, ℕ, ◌++◌, [], ◌∷◌, ap, ◌∙◌, sym}
use Rattle.std.specs.List.{flat_map}
use Rattle.std.specs.Str.{chars}
use Rattle.std.specs.String.{string_bytes}
use Rattle.std.proofs.lemmas.Str.{chars-nil}
use Rattle.scheme_tokens.specs.Spelling.{in_bars}
use Rattle.scheme_tokens.proofs.NameLaws.{one_more}
use Rattle.scheme_tokens.proofs.name.barred.Goals as goal

pub loop-c-init : goal.loop-c-init
loop-c-init c =
    let none = ap chars c.new-out.ensures.bytes ∙ chars-nil in
    record {
      utf8 = c.utf8.name;
      goes = ap (λ (q : List ℕ). q ++ (flat_map in_bars (chars c.args.name.now) ++ 124 ∷ [])) (c.in_ok-push.ensures ∙ ap (λ (q : List ℕ). q ++ 124 ∷ []) none);
    }

pub loop-c-preserved : goal.loop-c-preserved
loop-c-preserved c =
    let old = chars (string_bytes c.loop-c.out) in
    let more = flat_map in_bars (chars c.in-Some.more.now) in
    record {
      utf8 = c.in-Some.ensures.utf8;
      goes = ap (λ (q : List ℕ). q ++ (more ++ 124 ∷ [])) c.in_ok-push_in_bars.ensures ∙ one_more old (in_bars c.in-Some.c) more (124 ∷ [])
          ∙ ap (λ (q : List ℕ). old ++ (flat_map in_bars q ++ 124 ∷ [])) (sym c.in-Some.ensures.some) ∙ c.loop-c.invariant.goes;
    }
