-- How the machine goes on from a part of what stands before a body, and how each such part can be completed.
use Rattle.std.proofs.Common.{◌≡◌, ℕ, ◌+◌, suc, zero, List, [], ◌∷◌, ◌++◌, refl, sym, ap, ◌∙◌, Bool, true, false, if◌then◌else◌, ◌==◌, not, ◌&&◌, subst, Option, Some, None, Result, Ok, Err, append_assoc, nat_lt, get_or, codes}
use Rattle.std.specs.List.{list_all}
use Rattle.ls_base.specs.Frames.{IsHeader}
use Rattle.lsp_framing.specs.Machine.{letter, step, whole, part, onward, peel}
use Rattle.lsp_framing.specs.Standing.{Reads}
use Rattle.lsp_framing.specs.declared.header.HeaderState.{HeaderState}
use Rattle.lsp_framing.specs.declared.header.HeaderState.TheVariants.{Line, Name, Value, BeforeDigits, Digits, AfterDigits, LineFeed, LastLineFeed}
use Rattle.lsp_framing.specs.declared.header.State.{State}
use Rattle.lsp_framing.specs.declared.header.State.TheVariants.{Header, Body}
use Rattle.lsp_framing.specs.declared.header.Wrong.{Wrong}
use Rattle.lsp_framing.proofs.Reading.{both}
use Rattle.lsp_framing.proofs.ReadSoFar.{reads_step}

pub by_step : (s : HeaderState) (c : ℕ) (cs : List ℕ) (r : Result State Wrong) → step s c ≡ r → peel (c ∷ cs) s ≡ onward r cs (peel cs)
by_step s c cs r e = ap (λ (q : Result State Wrong). onward q cs (peel cs)) e

part_by : (c : ℕ) (p q : List ℕ) (a s : HeaderState) (r : Result State Wrong) → ((t : HeaderState) → peel p t ≡ part s → peel (p ++ q) t ≡ peel q s) → step a c ≡ r → peel (c ∷ p) a ≡ part s → peel (c ∷ (p ++ q)) a ≡ peel q s
part_by c p q a s (Err w) more e h = let x = by_step a c p (Err w) e in cc
part_by c p q a s (Ok (Body n)) more e h = let x = by_step a c p (Ok (Body n)) e in cc
part_by c p q a s (Ok (Header t)) more e h = by_step a c (p ++ q) (Ok (Header t)) e ∙ more t (sym (by_step a c p (Ok (Header t)) e) ∙ h)

-- a part of what stands before a body goes on with what follows
pub peel_part : (p q : List ℕ) (a s : HeaderState) → peel p a ≡ part s → peel (p ++ q) a ≡ peel q s
peel_part [] q a s h = let same : a ≡ s = cc in ap (peel q) same
peel_part (c ∷ p) q a s h = part_by c p q a s (step a c) (λ t. peel_part p q t s) refl h

ends_by : (c : ℕ) (q p : List ℕ) (s : HeaderState) (n : ℕ) (r : Result State Wrong) → ((t : HeaderState) → Reads t (p ++ c ∷ []) → peel q t ≡ whole n [] → IsHeader ((p ++ c ∷ []) ++ q) n) → Reads s p → step s c ≡ r → peel (c ∷ q) s ≡ whole n []
    → IsHeader (p ++ (c ∷ q)) n
ends_by c q p s n (Err w) more d e h = let x = by_step s c q (Err w) e in cc
ends_by c q p s n (Ok (Header t)) more d e h =
    subst (λ (x : List ℕ). IsHeader x n) (append_assoc p (c ∷ []) q) (more t (reads_step s (Header t) c p d e) (sym (by_step s c q (Ok (Header t)) e) ∙ h))
ends_by c q p s n (Ok (Body m)) more d e h =
    let x = by_step s c q (Ok (Body m)) e in
    let size : m ≡ n = cc in
    let none : q ≡ [] = cc in
    subst (λ (x : List ℕ). IsHeader (p ++ (c ∷ x)) n) (sym none) (subst (λ (x : ℕ). IsHeader (p ++ c ∷ []) x) size (reads_step s (Body m) c p d e))

-- what the machine reads to its end is a header part
pub ends : (q p : List ℕ) (s : HeaderState) (n : ℕ) → Reads s p → peel q s ≡ whole n [] → IsHeader (p ++ q) n
ends [] p s n r h = cc
ends (c ∷ q) p s n r h = ends_by c q p s n (step s c) (λ t. ends q (p ++ c ∷ []) t n) r refl h

-- bytes that bring each place to a body
abbrev pub finish_line : Option ℕ → List ℕ
finish_line None = codes "content-length:0" ++ (13 ∷ 10 ∷ 13 ∷ 10 ∷ [])
finish_line (Some n) = 13 ∷ 10 ∷ []

abbrev pub finish : HeaderState → List ℕ
finish (Line told) = finish_line told
finish (Name told k) = 33 ∷ 58 ∷ 13 ∷ 10 ∷ finish_line told
finish (Value told) = 13 ∷ 10 ∷ finish_line told
finish BeforeDigits = 48 ∷ 13 ∷ 10 ∷ 13 ∷ 10 ∷ []
finish (Digits n) = 13 ∷ 10 ∷ 13 ∷ 10 ∷ []
finish (AfterDigits n) = 13 ∷ 10 ∷ 13 ∷ 10 ∷ []
finish (LineFeed told) = 10 ∷ finish_line told
finish (LastLineFeed n) = 10 ∷ []

opposite : (b : Bool) → not b ≡ true → b ≡ false
opposite true h = cc
opposite false h = refl

not_there : (xs : List ℕ) (k : ℕ) → list_all (λ d. not (33 == d)) xs ≡ true → (33 == get_or xs k 0) ≡ false
not_there [] k h = refl
not_there (x ∷ xs) zero h = let p = both (not (33 == x)) (list_all (λ d. not (33 == d)) xs) h in opposite (33 == x) p.0
not_there (x ∷ xs) (suc k) h = not_there xs k (both (not (33 == x)) (list_all (λ d. not (33 == d)) xs) h).1

neither : (a b : Bool) (k : ℕ) → b ≡ false → (let o : Option ℕ = if a && b then Some (k + 1) else None in o) ≡ None
neither true true k h = cc
neither true false k h = refl
neither false b k h = refl

no_letter : (k : Option ℕ) → letter k 33 ≡ None
no_letter None = refl
no_letter (Some k) = neither (nat_lt k 14) (33 == get_or (codes "content-length") k 0) k (not_there (codes "content-length") k refl)

line_finishes : (told : Option ℕ) → (n : ℕ) × (peel (finish_line told) (Line told) ≡ whole n [])
line_finishes None = (0, refl)
line_finishes (Some n) = (n, refl)

-- so each place has bytes that complete it
pub finishes : (s : HeaderState) → (n : ℕ) × (peel (finish s) s ≡ whole n [])
finishes (Line told) = line_finishes told
finishes (Name told k) =
    let f = line_finishes told in
    (f.0, ap (λ (o : Option ℕ). peel (58 ∷ 13 ∷ 10 ∷ finish_line told) (Name told o)) (no_letter k) ∙ f.1)
finishes (Value told) = line_finishes told
finishes BeforeDigits = (0, refl)
finishes (Digits n) = (n, refl)
finishes (AfterDigits n) = (n, refl)
finishes (LineFeed told) = line_finishes told
finishes (LastLineFeed n) = (n, refl)
