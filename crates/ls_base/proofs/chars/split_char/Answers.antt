use Rattle.std.proofs.Common.{◌≡◌, ℕ, List, ◌∷◌, ◌++◌, drop, sym, ap, ◌∙◌, arith, subst, zero-add}
use Rattle.std.specs.Str.{chars, IsCharBoundary, IsUtf8}
use Rattle.std.specs.Char.{len_utf8, encode_utf8}
use Rattle.std.proofs.lemmas.Str.{chars_past_char, IsCharBoundary-past_char, drop_past_char}
use Rattle.ls_base.proofs.chars.split_char.Goals as goal

-- after the first character a text may be cut
cut : (bs rest : List ℕ) (c n : ℕ) → IsUtf8 bs → bs ≡ encode_utf8 c ++ rest → n ≡ len_utf8 c → IsCharBoundary bs n
cut bs rest c n u e k = subst (IsCharBoundary bs) (zero-add (len_utf8 c) ∙ sym k) (IsCharBoundary-past_char bs rest 0 c (omega arith) u e)

-- and what is dropped leaves what follows it
left : (bs rest more : List ℕ) (c n : ℕ) → bs ≡ encode_utf8 c ++ rest → n ≡ len_utf8 c → more ≡ drop n bs → more ≡ rest
left bs rest more c n e k m = m ∙ ap (λ (q : ℕ). drop q bs) (k ∙ sym (zero-add (len_utf8 c))) ∙ drop_past_char bs rest 0 c e

behind : (bs rest more : List ℕ) (c n : ℕ) → IsUtf8 bs → bs ≡ encode_utf8 c ++ rest → n ≡ len_utf8 c → more ≡ drop n bs → chars bs ≡ c ∷ chars more
behind bs rest more c n u e k m = chars_past_char bs rest c u e ∙ ap (λ (q : List ℕ). c ∷ chars q) (sym (left bs rest more c n e k m))

pub range_from-requires : goal.range_from-requires
range_from-requires c = λ some. cut c.args.text.now _ _ _ c.utf8.text (sym c.chars.ensures.rest ∙ c.in_ok-first.ensures.steps.0) c.len_utf8.ensures.value

pub returns-clause-some : goal.returns-clause-some
returns-clause-some c =
    behind c.args.text.now _ _ _ _ c.utf8.text (sym c.chars.ensures.rest ∙ c.in_ok-first.ensures.steps.0) c.len_utf8.ensures.value c.range_from.ensures.value
