-- The gap that the code passes is the intertoken space at the front of a text, and all of it.
use Rattle.std.proofs.Common.{◌≡◌, ℕ, suc, List, [], ◌∷◌, ◌++◌, true, refl, sym, ap, ◌∙◌, append_assoc, ◌==◌, inl, inr}
use Rattle.std.specs.List.{list_all}
use Rattle.std.specs.Char.{is_whitespace}
use Rattle.std.proofs.lemmas.Bool.{cond-true, cond-false, or_cases, or_parts, and_parts, not-true, not-false, eqb-true}
use Rattle.scheme_tokens.specs.Lexical.{is_line_end, Ends, IsNested, closed, plain, inner, is_in_line, IsSpace, none, white, line, nested}
use Rattle.scheme_tokens.specs.Mirror.Gaps as mirror
use Rattle.scheme_tokens.specs.Mirror.Gaps.{Within, between, block, opens, closes, behind_gap}
use Rattle.scheme_tokens.proofs.GapLaws.{line_none, between_none, after_closing, block_step, line_step, white_step, comment_step, nested_step}

-- ---- space is passed

-- a nested comment is passed, however many it lies in
nested_passed : {cs : List ℕ} → IsNested cs → (start : List ℕ) (outer : ℕ) (rest : List ℕ) → behind_gap (block start outer) (cs ++ rest) ≡ after_closing start outer rest
nested_passed closed start outer rest = block_step start outer 124 35 rest
nested_passed (plain c d cs apart more) start outer rest =
    let parts = or_parts (opens c d) (closes c d) apart in
    block_step start outer c d (cs ++ rest) ∙ cond-false (opens c d) _ _ parts.0 ∙ cond-false (closes c d) _ _ parts.1 ∙ nested_passed more start outer rest
nested_passed (inner cs ds first more) start outer rest =
    block_step start outer 35 124 ((cs ++ ds) ++ rest)
    ∙ ap (behind_gap (block start (suc outer))) (append_assoc cs ds rest) ∙ nested_passed first start (suc outer) (ds ++ rest) ∙ nested_passed more start outer rest

is_white : (c d : ℕ) → (c == d) ≡ true → is_whitespace d ≡ true → is_whitespace c ≡ true
is_white c d e h = ap is_whitespace (eqb-true c d e) ∙ h

pub line_end_white : (c : ℕ) → is_line_end c ≡ true → is_whitespace c ≡ true
line_end_white c h = elim (or_cases (c == 10) (c == 13) h) [ inl e ↦ is_white c 10 e refl | inr e ↦ is_white c 13 e refl ]

-- so is a comment to the end of a line
line_stays : (rest : List ℕ) → Ends is_in_line rest → behind_gap mirror.line rest ≡ behind_gap between rest
line_stays [] h = line_none ∙ sym between_none
line_stays (c ∷ cs) h =
    let ends = not-false (is_line_end c) h in
    line_step c cs ∙ cond-true (is_line_end c) _ _ ends ∙ sym (white_step c cs (line_end_white c ends))

line_passed : (cs rest : List ℕ) → list_all is_in_line cs ≡ true → Ends is_in_line rest → behind_gap mirror.line (cs ++ rest) ≡ behind_gap between rest
line_passed [] rest h e = line_stays rest e
line_passed (c ∷ cs) rest h e =
    let parts = and_parts (is_in_line c) (list_all is_in_line cs) h in
    line_step c (cs ++ rest) ∙ cond-false (is_line_end c) _ _ (not-true (is_line_end c) parts.0) ∙ line_passed cs rest parts.1 e

pub space_passed : {gap rest : List ℕ} → IsSpace gap rest → behind_gap between (gap ++ rest) ≡ behind_gap between rest
space_passed (none rest) = refl
space_passed (white c gap rest h more) = white_step c (gap ++ rest) h ∙ space_passed more
space_passed (line comment gap rest h e more) =
    comment_step ((comment ++ gap) ++ rest) ∙ ap (behind_gap mirror.line) (append_assoc comment gap rest) ∙ line_passed comment (gap ++ rest) h e ∙ space_passed more
space_passed (nested comment gap rest h more) =
    nested_step ((comment ++ gap) ++ rest) ∙ ap (behind_gap (block (35 ∷ 124 ∷ ((comment ++ gap) ++ rest)) 0)) (append_assoc comment gap rest)
    ∙ nested_passed h (35 ∷ 124 ∷ ((comment ++ gap) ++ rest)) 0 (gap ++ rest) ∙ space_passed more
