-- What the code passes as a gap is intertoken space; where it tells an open comment, that comment can still be closed.
use Rattle.std.proofs.Common.{◌≡◌, ℕ, zero, suc, List, [], ◌∷◌, ◌++◌, Result, Ok, Err, Bool, true, false, cond, refl, sym, ap, ◌∙◌, subst, append_assoc, ◌||◌, ◌==◌, ◌⊎◌, inl, inr}
use Rattle.std.specs.List.{list_all}
use Rattle.std.specs.Char.{is_whitespace}
use Rattle.std.proofs.lemmas.Bool.{cond-false, cond_both, or_cases, or_parts, or_from, and_parts, and_from, eqb-true, not_from_false, not_from_true, and_right}
use Rattle.scheme_tokens.specs.Lexical.{is_line_end, Ends, is_mark, IsNested, closed, plain, inner, is_in_line, IsSpace, none, white, line, nested}
use Rattle.scheme_tokens.specs.Mirror.Gaps as mirror
use Rattle.scheme_tokens.specs.Mirror.Gaps.{Within, between, block, opens, closes, behind_gap}
use Rattle.scheme_tokens.proofs.Same.Gaps.{line_end_white}
use Rattle.scheme_tokens.proofs.GapLaws.{between_none, between_one, between_step}

-- ---- comments

-- the text closes one comment more than so many, and then this holds of the rest
abbrev pub Passed : ℕ → List ℕ → (List ℕ → Type 0) → Type 0
Passed zero text P = (cs : List ℕ) × (rest : List ℕ) × (text ≡ cs ++ rest) × IsNested cs × P rest
Passed (suc outer) text P = (cs : List ℕ) × (rest : List ℕ) × (text ≡ cs ++ rest) × IsNested cs × Passed outer rest P

-- with more behind it the text closes one comment more than so many, and there it ends
abbrev pub IsOpen : ℕ → List ℕ → Type 0
IsOpen outer text = (m : ℕ) × (more : List ℕ) × Passed outer (text ++ m ∷ more) (λ rest. rest ≡ [])

some_nested : {cs : List ℕ} → IsNested cs → (d : ℕ) × (ds : List ℕ) × (cs ≡ d ∷ ds)
some_nested closed = (124, 35 ∷ [], refl)
some_nested (plain c d cs apart more) = (c, d ∷ cs, refl)
some_nested (inner cs ds first more) = (35, 124 ∷ (cs ++ ds), refl)

head_or : List ℕ → ℕ
head_or [] = 0
head_or (c ∷ cs) = c

same_head : (c d : ℕ) (cs ds : List ℕ) → c ∷ cs ≡ d ∷ ds → c ≡ d
same_head c d cs ds e = cc

plain_front : (c d : ℕ) (ds cs rest : List ℕ) → is_mark c d ≡ false → d ∷ ds ≡ cs ++ rest → IsNested cs → IsNested (c ∷ cs)
plain_front c d ds cs rest apart e h =
    let some = some_nested h in
    let whole = e ∙ ap (λ (q : List ℕ). q ++ rest) some.2 in
    let first = same_head d some.0 ds (some.1 ++ rest) whole in
    subst (λ (q : List ℕ). IsNested (c ∷ q)) (sym some.2) (plain c some.0 some.1 (ap (is_mark c) (sym first) ∙ apart) (subst IsNested some.2 h))

pub plain_passed : (outer c d : ℕ) (ds : List ℕ) (P : List ℕ → Type 0) → is_mark c d ≡ false → Passed outer (d ∷ ds) P → Passed outer (c ∷ d ∷ ds) P
plain_passed zero c d ds P apart h = (c ∷ h.0, h.1, ap (λ (q : List ℕ). c ∷ q) h.2, plain_front c d ds h.0 h.1 apart h.2 h.3, h.4)
plain_passed (suc outer) c d ds P apart h = (c ∷ h.0, h.1, ap (λ (q : List ℕ). c ∷ q) h.2, plain_front c d ds h.0 h.1 apart h.2 h.3, h.4)

joined : (ds cs rest es last : List ℕ) → ds ≡ cs ++ rest → rest ≡ es ++ last → 35 ∷ 124 ∷ ds ≡ (35 ∷ 124 ∷ (cs ++ es)) ++ last
joined ds cs rest es last e f = ap (λ (q : List ℕ). 35 ∷ 124 ∷ q) (e ∙ ap (λ (q : List ℕ). cs ++ q) f ∙ sym (append_assoc cs es last))

pub inner_passed : (outer : ℕ) (ds : List ℕ) (P : List ℕ → Type 0) → Passed (suc outer) ds P → Passed outer (35 ∷ 124 ∷ ds) P
inner_passed zero ds P h =
    let next = h.4 in
    (35 ∷ 124 ∷ (h.0 ++ next.0), next.1, joined ds h.0 h.1 next.0 next.1 h.2 next.2, inner h.0 next.0 h.3 next.3, next.4)
inner_passed (suc outer) ds P h =
    let next = h.4 in
    (35 ∷ 124 ∷ (h.0 ++ next.0), next.1, joined ds h.0 h.1 next.0 next.1 h.2 next.2, inner h.0 next.0 h.3 next.3, next.4)

-- ---- gaps

-- the text is intertoken space and then the rest
abbrev pub Spaced : List ℕ → List ℕ → Type 0
Spaced text rest = (gap : List ℕ) × (text ≡ gap ++ rest) × IsSpace gap rest

-- the rest of a line, and then space
abbrev Lined : List ℕ → List ℕ → Type 0
Lined text rest = (comment : List ℕ) × (gap : List ℕ) × (text ≡ comment ++ (gap ++ rest)) × (list_all is_in_line comment ≡ true) × Ends is_in_line (gap ++ rest) × IsSpace gap rest

abbrev pub target : Result (List ℕ) (List ℕ) → List ℕ
target (Ok front) = front
target (Err start) = start

-- no space stands first
abbrev pub Dark : List ℕ → Type 0
Dark [] = Unit {0}
Dark (c ∷ []) = (is_whitespace c ≡ false) × ((c == 59) ≡ false)
Dark (c ∷ d ∷ ds) = (is_whitespace c ≡ false) × ((c == 59) ≡ false) × (opens c d ≡ false)

pub dark_gap : (text : List ℕ) → Dark text → behind_gap between text ≡ Ok text
dark_gap [] h = between_none
dark_gap (c ∷ []) h = between_one c ∙ cond-false (is_whitespace c || c == 59) _ _ (or_from (is_whitespace c) (c == 59) h.0 h.1)
dark_gap (c ∷ d ∷ ds) h = between_step c d ds ∙ cond-false (is_whitespace c) _ _ h.0 ∙ cond-false (c == 59) _ _ h.1 ∙ cond-false (opens c d) _ _ h.2

-- no space stands first, or only a comment that can still be closed
abbrev pub Halts : Result (List ℕ) (List ℕ) → Type 0
Halts (Ok front) = Dark front
Halts (Err start) = (cs : List ℕ) × (start ≡ 35 ∷ 124 ∷ cs) × IsOpen 0 cs

abbrev pub Ended : List ℕ → Result (List ℕ) (List ℕ) → Type 0
Ended text r = Spaced text (target r) × Halts r

abbrev pub Told : Within → List ℕ → Result (List ℕ) (List ℕ) → Type 0
Told between text r = Ended text r
Told mirror.line text r = Lined text (target r) × Halts r
Told (block start outer) text r = Passed outer text (λ rest. Ended rest r) ⊎ ((r ≡ Err start) × IsOpen outer text)

white_told : (c : ℕ) (text : List ℕ) (r : Result (List ℕ) (List ℕ)) → is_whitespace c ≡ true → Ended text r → Ended (c ∷ text) r
white_told c text r h told =
    let s = told.0 in
    ((c ∷ s.0, ap (λ (q : List ℕ). c ∷ q) s.1, white c s.0 (target r) h s.2), told.1)

line_told : (c : ℕ) (text : List ℕ) (r : Result (List ℕ) (List ℕ)) → (c == 59) ≡ true → Lined text (target r) × Halts r → Ended (c ∷ text) r
line_told c text r h told =
    let s = told.0 in
    ((59 ∷ (s.0 ++ s.1), (λ i. eqb-true c 59 h i ∷ s.2 i) ∙ ap (λ (q : List ℕ). 59 ∷ q) (sym (append_assoc s.0 s.1 (target r))), line s.0 s.1 (target r) s.3 s.4 s.5), told.1)

opening : (c d : ℕ) (text : List ℕ) → opens c d ≡ true → c ∷ d ∷ text ≡ 35 ∷ 124 ∷ text
opening c d text h =
    let parts = and_parts (c == 35) (d == 124) h in
    (λ i. eqb-true c 35 parts.0 i ∷ eqb-true d 124 parts.1 i ∷ text)

block_told : (c d : ℕ) (text : List ℕ) (r : Result (List ℕ) (List ℕ)) → opens c d ≡ true → Told (block (c ∷ d ∷ text) 0) text r → Ended (c ∷ d ∷ text) r
block_told c d text r h (inl p) =
    let told = p.4 in
    let s = told.0 in
    ((35 ∷ 124 ∷ (p.0 ++ s.0), opening c d text h ∙ joined text p.0 p.1 s.0 (target r) p.2 s.1, nested p.0 s.0 (target r) p.3 s.2), told.1)
block_told c d text r h (inr o) =
    subst (λ (q : Result (List ℕ) (List ℕ)). Ended (c ∷ d ∷ text) q) (sym o.0) (([], refl, none (c ∷ d ∷ text)), (text, opening c d text h, o.1))

here : (text : List ℕ) (r : Result (List ℕ) (List ℕ)) → r ≡ Ok text → Dark text → Ended text r
here text r e h = subst (λ (q : Result (List ℕ) (List ℕ)). Ended text q) (sym e) (([], refl, none text), h)

line_end_told : (c : ℕ) (text : List ℕ) (r : Result (List ℕ) (List ℕ)) → is_line_end c ≡ true → is_whitespace c ≡ true → Ended text r → Lined (c ∷ text) (target r) × Halts r
line_end_told c text r h w told =
    let s = told.0 in
    (([], c ∷ s.0, ap (λ (q : List ℕ). c ∷ q) s.1, refl, not_from_true (is_line_end c) h, white c s.0 (target r) w s.2), told.1)

in_line_told : (c : ℕ) (text : List ℕ) (r : Result (List ℕ) (List ℕ)) → is_line_end c ≡ false → Lined text (target r) × Halts r → Lined (c ∷ text) (target r) × Halts r
in_line_told c text r h told =
    let s = told.0 in
    ((c ∷ s.0, s.1, ap (λ (q : List ℕ). c ∷ q) s.2, and_from (is_in_line c) (list_all is_in_line s.0) (not_from_false (is_line_end c) h) s.3, s.4, s.5), told.1)

-- ---- within a comment

-- a mark more closes
closes_passed : (outer : ℕ) (ds : List ℕ) (P : List ℕ → Type 0) → Passed outer ds P → Passed (suc outer) (124 ∷ 35 ∷ ds) P
closes_passed zero ds P h = (124 ∷ 35 ∷ [], ds, refl, closed, h)
closes_passed (suc outer) ds P h = (124 ∷ 35 ∷ [], ds, refl, closed, h)

closing : (c d : ℕ) (text : List ℕ) → closes c d ≡ true → c ∷ d ∷ text ≡ 124 ∷ 35 ∷ text
closing c d text h =
    let parts = and_parts (c == 124) (d == 35) h in
    (λ i. eqb-true c 124 parts.0 i ∷ eqb-true d 35 parts.1 i ∷ text)

nothing_left : (outer : ℕ) → IsOpen outer []
nothing_left zero = (124, 35 ∷ [], (124 ∷ 35 ∷ [], [], refl, closed, refl))
nothing_left (suc outer) =
    let more = nothing_left outer in
    (124, 35 ∷ more.0 ∷ more.1, closes_passed outer (more.0 ∷ more.1) (λ rest. rest ≡ []) more.2)

one_left : (outer c : ℕ) → IsOpen outer (c ∷ [])
one_left outer c =
    let more = nothing_left outer in (
      32,
      more.0 ∷ more.1,
      plain_passed outer c 32 (more.0 ∷ more.1) (λ rest. rest ≡ []) (or_from (opens c 32) (closes c 32) (and_right (c == 35) (32 == 124) refl) (and_right (c == 124) (32 == 35) refl))
          (plain_passed outer 32 more.0 more.1 (λ rest. rest ≡ []) refl more.2),
    )

plain_told : (outer c d : ℕ) (start text : List ℕ) (r : Result (List ℕ) (List ℕ)) → is_mark c d ≡ false → Told (block start outer) (d ∷ text) r → Told (block start outer) (c ∷ d ∷ text) r
plain_told outer c d start text r h (inl p) = inl (plain_passed outer c d text (λ rest. Ended rest r) h p)
plain_told outer c d start text r h (inr o) =
    let more = o.1 in
    inr (o.0, (more.0, more.1, plain_passed outer c d (text ++ more.0 ∷ more.1) (λ rest. rest ≡ []) h more.2))

opens_told : (outer c d : ℕ) (start text : List ℕ) (r : Result (List ℕ) (List ℕ)) → opens c d ≡ true → Told (block start (suc outer)) text r → Told (block start outer) (c ∷ d ∷ text) r
opens_told outer c d start text r h (inl p) =
    subst (λ (q : List ℕ). Told (block start outer) q r) (sym (opening c d text h)) (inl (inner_passed outer text (λ rest. Ended rest r) p))
opens_told outer c d start text r h (inr o) =
    let more = o.1 in
    subst (λ (q : List ℕ). Told (block start outer) q r) (sym (opening c d text h)) (inr (o.0, (more.0, more.1, inner_passed outer (text ++ more.0 ∷ more.1) (λ rest. rest ≡ []) more.2)))

last_told : (c d : ℕ) (start text : List ℕ) (r : Result (List ℕ) (List ℕ)) → closes c d ≡ true → Ended text r → Told (block start zero) (c ∷ d ∷ text) r
last_told c d start text r h told =
    subst (λ (q : List ℕ). Told (block start zero) q r) (sym (closing c d text h)) (inl (124 ∷ 35 ∷ [], text, refl, closed, told))

closes_told : (outer c d : ℕ) (start text : List ℕ) (r : Result (List ℕ) (List ℕ)) → closes c d ≡ true → Told (block start outer) text r → Told (block start (suc outer)) (c ∷ d ∷ text) r
closes_told outer c d start text r h (inl p) =
    subst (λ (q : List ℕ). Told (block start (suc outer)) q r) (sym (closing c d text h)) (inl (closes_passed outer text (λ rest. Ended rest r) p))
closes_told outer c d start text r h (inr o) =
    let more = o.1 in
    subst (λ (q : List ℕ). Told (block start (suc outer)) q r) (sym (closing c d text h)) (inr (o.0, (more.0, more.1, closes_passed outer (text ++ more.0 ∷ more.1) (λ rest. rest ≡ []) more.2)))

one_between : (c : ℕ) (b : Bool) → (is_whitespace c || c == 59) ≡ b → Told between (c ∷ []) (cond b (Ok []) (Ok (c ∷ [])))
one_between c true h = elim (or_cases (is_whitespace c) (c == 59) h) [
  | inl e ↦ white_told c [] (Ok []) e (here [] (Ok []) refl tt)
  | inr e ↦ line_told c [] (Ok []) e (([], [], refl, refl, tt, none []), tt)
]
one_between c false h = here (c ∷ []) (Ok (c ∷ [])) refl (or_parts (is_whitespace c) (c == 59) h)

-- what the code tells of a gap
pub gap_told : (w : Within) (text : List ℕ) → Told w text (behind_gap w text)
unfolding behind_gap
gap_told between [] = here [] (Ok []) refl tt
gap_told between (c ∷ []) = one_between c (is_whitespace c || c == 59) refl
gap_told between (c ∷ d ∷ cs) =
    cond_both (is_whitespace c) _ _ (Told between (c ∷ d ∷ cs)) (λ white. white_told c (d ∷ cs) (behind_gap between (d ∷ cs)) white (gap_told between (d ∷ cs)))
    (λ dark. cond_both (c == 59) _ _ (Told between (c ∷ d ∷ cs)) (λ line. line_told c (d ∷ cs) (behind_gap mirror.line (d ∷ cs)) line (gap_told mirror.line (d ∷ cs)))
    (λ word. cond_both (opens c d) _ _ (Told between (c ∷ d ∷ cs)) (λ opening. block_told c d cs (behind_gap (block (c ∷ d ∷ cs) 0) cs) opening (gap_told (block (c ∷ d ∷ cs) 0) cs))
    (λ none. here (c ∷ d ∷ cs) (Ok (c ∷ d ∷ cs)) refl (dark, word, none))))
gap_told mirror.line [] = (([], [], refl, refl, tt, none []), tt)
gap_told mirror.line (c ∷ cs) =
    cond_both (is_line_end c) _ _ (Told mirror.line (c ∷ cs)) (λ e. line_end_told c cs (behind_gap between cs) e (line_end_white c e) (gap_told between cs))
    (λ e. in_line_told c cs (behind_gap mirror.line cs) e (gap_told mirror.line cs))
gap_told (block start zero) [] = inr (refl, nothing_left zero)
gap_told (block start (suc outer)) [] = inr (refl, nothing_left (suc outer))
gap_told (block start zero) (c ∷ []) = inr (refl, one_left zero c)
gap_told (block start (suc outer)) (c ∷ []) = inr (refl, one_left (suc outer) c)
gap_told (block start zero) (c ∷ d ∷ cs) =
    cond_both (opens c d) _ _ (Told (block start zero) (c ∷ d ∷ cs)) (λ e. opens_told zero c d start cs (behind_gap (block start 1) cs) e (gap_told (block start 1) cs))
    (λ e. cond_both (closes c d) _ _ (Told (block start zero) (c ∷ d ∷ cs)) (λ f. last_told c d start cs (behind_gap between cs) f (gap_told between cs))
    (λ f. plain_told zero c d start cs (behind_gap (block start 0) (d ∷ cs)) (or_from (opens c d) (closes c d) e f) (gap_told (block start 0) (d ∷ cs))))
gap_told (block start (suc outer)) (c ∷ d ∷ cs) =
    cond_both (opens c d) _ _ (Told (block start (suc outer)) (c ∷ d ∷ cs)) (λ e. opens_told (suc outer) c d start cs (behind_gap (block start (suc (suc outer))) cs) e (gap_told (block start (suc (suc outer))) cs))
    (λ e. cond_both (closes c d) _ _ (Told (block start (suc outer)) (c ∷ d ∷ cs)) (λ f. closes_told outer c d start cs (behind_gap (block start outer) cs) f (gap_told (block start outer) cs))
    (λ f. plain_told (suc outer) c d start cs (behind_gap (block start (suc outer)) (d ∷ cs)) (or_from (opens c d) (closes c d) e f) (gap_told (block start (suc outer)) (d ∷ cs))))
