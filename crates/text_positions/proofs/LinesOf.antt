-- The lines of a text, one character on.
use Rattle.std.proofs.Common.{◌≡◌, ℕ, ◌+◌, ◌<◌, inl, inr, Bool, true, false, not, cond, List, [], ◌∷◌, length, drop, refl, sym, ap, subst, arith}
use Rattle.std.proofs.lemmas.Bool.Decides.{nat_tests}
use Rattle.std.proofs.lemmas.Bool.{cases_eq}
use Rattle.std.proofs.lemmas.List.Sums.{sum_by-cons}
use Rattle.std.specs.Char.{len_utf8}
use Rattle.ls_base.specs.Positions.{Line, ended, lines_of, returned, longer, full_bytes, byte_count}
use Rattle.text_positions.specs.Walks.{begins_with_feed, ends_behind}

-- the bytes of the first line with its end
abbrev pub first_bytes : List Line → ℕ
first_bytes [] = 0
first_bytes (l ∷ lines) = full_bytes l

-- the lines now are those that were, with c in front, behind which a line ends or doesn't
pub record Grow (c : ℕ) (ends : Bool) (was now : List Line) : Type 0 where
  pub some : 0 < length now
  pub first : first_bytes now ≡ len_utf8 c + cond ends 0 (first_bytes was)
  pub rest : drop 1 now ≡ cond ends was (drop 1 was)

grow_same : (c : ℕ) (b d : Bool) (was now lines : List Line) → b ≡ d → now ≡ lines → Grow c d was lines → Grow c b was now
grow_same c b d was now lines e f g = rw (e, f) g

grow_ended : (c : ℕ) (lines : List Line) → len_utf8 c ≡ 1 → Grow c true lines (ended (c ∷ []) lines)
grow_ended c lines one = record { some = omega arith; first = omega (arith, sum_by-cons len_utf8 c []); rest = refl }

grow_longer : (c : ℕ) (lines : List Line) → Grow c false lines (longer c lines)
grow_longer c [] = record { some = omega arith; first = omega (arith, sum_by-cons len_utf8 c []); rest = refl }
grow_longer c (l ∷ lines) =
    let one : byte_count (c ∷ l.chars) ≡ len_utf8 c + byte_count l.chars = sum_by-cons len_utf8 c l.chars in
    record { some = omega arith; first = omega arith; rest = refl }

-- a carriage return that no line feed follows is a line end of its own
returned_alone : (cs : List ℕ) (lines : List Line) → begins_with_feed cs ≡ false → returned cs lines ≡ ended (13 ∷ []) lines
returned_alone [] lines alone = refl
returned_alone (c ∷ cs) [] alone = refl
returned_alone (c ∷ cs) (l ∷ lines) alone = rw alone refl

-- before a line feed it makes the line end longer
grow_returned : (cs : List ℕ) → Grow 13 (not (begins_with_feed cs)) (lines_of cs) (returned cs (lines_of cs))
grow_returned [] = grow_ended 13 (lines_of []) refl
grow_returned (d ∷ ds) = elim (cases_eq d 10) [
  | inl feed ↦ subst (λ d. Grow 13 (not (begins_with_feed (d ∷ ds))) (lines_of (d ∷ ds)) (returned (d ∷ ds) (lines_of (d ∷ ds)))) (sym feed)
      (record { some = omega arith; first = refl; rest = refl })
  | inr other ↦
      let alone : begins_with_feed (d ∷ ds) ≡ false = grind (arith, nat_tests) in
      grow_same 13 _ true (lines_of (d ∷ ds)) _ _ (ap not alone) (returned_alone (d ∷ ds) (lines_of (d ∷ ds)) alone) (grow_ended 13 (lines_of (d ∷ ds)) refl)
]

pub grow : (c : ℕ) (cs : List ℕ) → Grow c (ends_behind c cs) (lines_of cs) (lines_of (c ∷ cs))
grow c cs = elim (cases_eq c 10) [
  | inl feed ↦ subst (λ c. Grow c (ends_behind c cs) (lines_of cs) (lines_of (c ∷ cs))) (sym feed) (grow_ended 10 (lines_of cs) refl)
  | inr n ↦ elim (cases_eq c 13) [
    | inl return ↦ subst (λ c. Grow c (ends_behind c cs) (lines_of cs) (lines_of (c ∷ cs))) (sym return) (grow_returned cs)
    | inr r ↦
        let behind : ends_behind c cs ≡ false = grind (arith, nat_tests) in
        let lines : lines_of (c ∷ cs) ≡ longer c (lines_of cs) = grind (arith, nat_tests) in
        grow_same c _ false (lines_of cs) _ _ behind lines (grow_longer c (lines_of cs))
  ]
]

-- each text has a first line
pub length-lines_of : (cs : List ℕ) → 0 < length (lines_of cs)
length-lines_of [] = omega arith
length-lines_of (c ∷ cs) = let g = grow c cs in g.some
