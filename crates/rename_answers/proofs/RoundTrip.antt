-- The offset of the position of an offset is the offset, where this stands between characters and not within the end of a line.
use Rattle.std.proofs.Common.{◌≡◌, ℕ, zero, suc, ◌+◌, ◌-◌, ◌<◌, ◌≤◌, ◌==◌, Bool, true, false, cond, ltb, leb, List, [], ◌∷◌, ◌++◌, length, take, drop, refl, sym, subst, ap, ◌∙◌, arith}
use Rattle.std.proofs.lemmas.Bool.{lt-ltb, le-ltb, ltb-true, ltb-false, lt-leb, le-leb, eqb-true}
use Rattle.std.proofs.lemmas.List.Sums.{sum_by-cons}
use Rattle.std.proofs.lemmas.List.{take-append-drop, length-append, length-take-le}
use Rattle.std.proofs.lemmas.Str.{len_utf8_bounds, encodes-chars, chars-append, IsUtf8-take, length-encode}
use Rattle.std.proofs.Math.Utf8.{encode, encodes}
use Rattle.std.specs.Str.{chars, IsUtf8, IsCharBoundary}
use Rattle.std.specs.Char.{len_utf8}
use Rattle.ls_base.specs.declared.encoding.Encoding.{Encoding}
use Rattle.ls_base.specs.declared.encoding.Encoding.TheVariants.{Utf8, Utf16, Utf32}
use Rattle.ls_base.specs.declared.places.Pos.{Pos}
use Rattle.ls_base.specs.Positions.{Line, lines_of, full_bytes, byte_count, bytes_within, units_of, units_within, offset_in, offset_of, position_of, position_in, below, ended, longer, returned}

-- a text that goes on so behind a front is cut within a line end
abbrev pub IsWithinEnd : (front rest : List ℕ) → Type 0
IsWithinEnd [] ys = ⊥
IsWithinEnd (c ∷ []) [] = ⊥
IsWithinEnd (c ∷ []) (d ∷ ys) = (c ≡ 13) × (d ≡ 10)
IsWithinEnd (c ∷ d ∷ xs) ys = IsWithinEnd (d ∷ xs) ys

-- what a position is in lines
abbrev at : (ℕ → ℕ) → List Line → Pos → ℕ
at units lines p = offset_in units lines p.line p.character

-- back at an offset by its position
abbrev pub Back : (ℕ → ℕ) → List Line → ℕ → Type 0
Back units lines n = at units lines (position_in units lines n) ≡ n

lines_some : (cs : List ℕ) → (m : Line) × (ms : List Line) × (lines_of cs ≡ m ∷ ms)
lines_some [] = (_, _, refl)
lines_some (c ∷ cs) = go (c == 10) (c == 13)
  where
    returned_some : (ls : List Line) (cs : List ℕ) → (m : Line) × (ms : List Line) × (returned cs ls ≡ m ∷ ms)
    returned_some ls [] = (_, _, refl)
    returned_some [] (d ∷ ds) = (_, _, refl)
    returned_some (l ∷ ls) (d ∷ ds) = by_feed (d == 10)
      where
        by_feed : (t : Bool) → (m : Line) × (ms : List Line) × (cond t (ended (13 ∷ l.ending) ls) (ended (13 ∷ []) (l ∷ ls)) ≡ m ∷ ms)
        by_feed true = (_, _, refl)
        by_feed false = (_, _, refl)

    longer_some : (ls : List Line) → (m : Line) × (ms : List Line) × (longer c ls ≡ m ∷ ms)
    longer_some [] = (_, _, refl)
    longer_some (l ∷ ls) = (_, _, refl)

    go : (t u : Bool) → (m : Line) × (ms : List Line) × (cond t (ended (10 ∷ []) (lines_of cs)) (cond u (returned cs (lines_of cs)) (longer c (lines_of cs))) ≡ m ∷ ms)
    go true u = (_, _, refl)
    go false true = returned_some (lines_of cs) cs
    go false false = longer_some (lines_of cs)

deeper : (units : ℕ → ℕ) (l : Line) (lines : List Line) (p : Pos) → at units (l ∷ lines) (below p) ≡ full_bytes l + at units lines p
deeper units l lines p =
    let e : suc p.line ≡ 1 + p.line = omega arith in subst (λ n. offset_in units (l ∷ lines) n p.character ≡ full_bytes l + at units lines p) e refl

-- the position of an offset behind the first line
behind : (units : ℕ → ℕ) (l m : Line) (ms : List Line) (f n : ℕ) → full_bytes l ≡ f → Back units (m ∷ ms) n → Back units (l ∷ m ∷ ms) (f + n)
behind units l m ms f n e h =
    let q : ltb (f + n) (full_bytes l) ≡ false = le-ltb (f + n) (full_bytes l) (omega arith) in
    let k : (f + n) - full_bytes l ≡ n = omega arith in
    subst (λ t. at units (l ∷ m ∷ ms) (cond t (record { line = 0; character = units_within units (f + n) l.chars }) (below (position_in units (m ∷ ms) ((f + n) - full_bytes l)))) ≡ f + n) (sym q)
    (omega (arith, deeper units l (m ∷ ms) (position_in units (m ∷ ms) ((f + n) - full_bytes l)), ap (λ i. at units (m ∷ ms) (position_in units (m ∷ ms) i)) k, h, e))

module _ (units : ℕ → ℕ) (some : (c : ℕ) → 1 ≤ units c) where
  back_ended : (ending : List ℕ) (m : Line) (ms : List Line) (n : ℕ) → Back units (m ∷ ms) n → Back units (ended ending (m ∷ ms)) (byte_count ending + n)
  back_ended ending m ms n h = behind units (record { chars = []; ending = ending }) m ms (byte_count ending) n (omega arith) h

  -- one character more of a line
  within_longer : (c n : ℕ) (cs : List ℕ) → bytes_within units (units_within units n cs) cs ≡ n → bytes_within units (units_within units (len_utf8 c + n) (c ∷ cs)) (c ∷ cs) ≡ len_utf8 c + n
  within_longer c n cs h =
      let q : leb (len_utf8 c) (len_utf8 c + n) ≡ true = le-leb (len_utf8 c) (len_utf8 c + n) (omega arith) in
      let k : (len_utf8 c + n) - len_utf8 c ≡ n = omega arith in
      subst (λ t. bytes_within units (cond t (units c + units_within units ((len_utf8 c + n) - len_utf8 c) cs) 0) (c ∷ cs) ≡ len_utf8 c + n) (sym q)
      (subst (λ i. bytes_within units (units c + units_within units i cs) (c ∷ cs) ≡ len_utf8 c + n) (sym k) counted)
    where
      counted : bytes_within units (units c + units_within units n cs) (c ∷ cs) ≡ len_utf8 c + n
      counted =
          let u = units_within units n cs in
          let q : leb (units c) (units c + u) ≡ true = le-leb (units c) (units c + u) (omega arith) in
          let k : (units c + u) - units c ≡ u = omega arith in
          subst (λ t. cond t (len_utf8 c + bytes_within units ((units c + u) - units c) cs) 0 ≡ len_utf8 c + n) (sym q)
          (subst (λ i. len_utf8 c + bytes_within units i cs ≡ len_utf8 c + n) (sym k) (ap (λ i. len_utf8 c + i) h))

  back_longer : (c : ℕ) (l : Line) (ms : List Line) (n : ℕ) → Back units (l ∷ ms) n → Back units (longer c (l ∷ ms)) (len_utf8 c + n)
  back_longer c l [] n h = within_longer c n l.chars h
  back_longer c l (m ∷ ms) n h = go (ltb n (full_bytes l)) refl
    where
      more : Line
      more = record { chars = c ∷ l.chars; ending = l.ending }

      grown : full_bytes more ≡ len_utf8 c + full_bytes l
      grown = omega (arith, sum_by-cons len_utf8 c l.chars)

      go : (t : Bool) → ltb n (full_bytes l) ≡ t → Back units (more ∷ m ∷ ms) (len_utf8 c + n)
      go true q =
          let less = ltb-true n (full_bytes l) q in
          let p : ltb (len_utf8 c + n) (full_bytes more) ≡ true = lt-ltb (len_utf8 c + n) (full_bytes more) (omega (arith, grown, less)) in
          let there : bytes_within units (units_within units n l.chars) l.chars ≡ n =
          subst (λ t. at units (l ∷ m ∷ ms) (cond t (record { line = 0; character = units_within units n l.chars }) (below (position_in units (m ∷ ms) (n - full_bytes l)))) ≡ n) q h in
          subst (λ t. at units (more ∷ m ∷ ms) (cond t (record { line = 0; character = units_within units (len_utf8 c + n) more.chars }) (below (position_in units (m ∷ ms) ((len_utf8 c + n) - full_bytes more)))) ≡ len_utf8 c + n) (sym p)
          (within_longer c n l.chars there)
      go false q =
          let least = ltb-false n (full_bytes l) q in
          let there : at units (l ∷ m ∷ ms) (below (position_in units (m ∷ ms) (n - full_bytes l))) ≡ n =
          subst (λ t. at units (l ∷ m ∷ ms) (cond t (record { line = 0; character = units_within units n l.chars }) (below (position_in units (m ∷ ms) (n - full_bytes l)))) ≡ n) q h in
          let rest : Back units (m ∷ ms) (n - full_bytes l) = omega (arith, there, least, deeper units l (m ∷ ms) (position_in units (m ∷ ms) (n - full_bytes l))) in
          let e : full_bytes more + (n - full_bytes l) ≡ len_utf8 c + n = omega (arith, grown, least) in
          subst (Back units (more ∷ m ∷ ms)) e (behind units more m ms (full_bytes more) (n - full_bytes l) refl rest)

  -- at the start of a line whose first character is this
  nothing_within : (c : ℕ) (cs : List ℕ) → bytes_within units (units_within units 0 (c ∷ cs)) (c ∷ cs) ≡ 0
  nothing_within c cs =
      let q : leb (len_utf8 c) 0 ≡ false = leb_false (len_utf8 c) (len_utf8_bounds c).0 in
      let p : leb (units c) 0 ≡ false = leb_false (units c) (some c) in
      subst (λ t. bytes_within units (cond t (units c + units_within units (0 - len_utf8 c) cs) 0) (c ∷ cs) ≡ 0) (sym q)
      (subst (λ t. cond t (len_utf8 c + bytes_within units (0 - units c) cs) 0 ≡ 0) (sym p) refl)
    where
      leb_false : (n : ℕ) → 1 ≤ n → leb n 0 ≡ false
      leb_false n h = lt-leb n 0 (omega (arith, h))

  start_ended : (c : ℕ) (ending : List ℕ) (m : Line) (ms : List Line) → Back units (ended (c ∷ ending) (m ∷ ms)) 0
  start_ended c ending m ms =
      let f : 0 < full_bytes (record { chars = []; ending = c ∷ ending }) = omega (arith, sum_by-cons len_utf8 c ending, (len_utf8_bounds c).0) in
      let q : ltb 0 (full_bytes (record { chars = []; ending = c ∷ ending })) ≡ true = lt-ltb 0 _ f in
      subst (λ t. at units (ended (c ∷ ending) (m ∷ ms)) (cond t (record { line = 0; character = 0 }) (below (position_in units (m ∷ ms) (0 - full_bytes (record { chars = []; ending = c ∷ ending }))))) ≡ 0) (sym q) refl

  start_longer : (c : ℕ) (l : Line) (ms : List Line) → Back units (longer c (l ∷ ms)) 0
  start_longer c l [] = nothing_within c l.chars
  start_longer c l (m ∷ ms) =
      let more : Line = record { chars = c ∷ l.chars; ending = l.ending } in
      let f : 0 < full_bytes more = omega (arith, sum_by-cons len_utf8 c l.chars, (len_utf8_bounds c).0) in
      let q : ltb 0 (full_bytes more) ≡ true = lt-ltb 0 (full_bytes more) f in
      subst (λ t. at units (more ∷ m ∷ ms) (cond t (record { line = 0; character = units_within units 0 more.chars }) (below (position_in units (m ∷ ms) (0 - full_bytes more)))) ≡ 0) (sym q)
      (nothing_within c l.chars)

  start_returned : (cs : List ℕ) (m : Line) (ms : List Line) → Back units (returned cs (m ∷ ms)) 0
  start_returned [] m ms = start_ended 13 [] m ms
  start_returned (d ∷ ds) m ms = go (d == 10)
    where
      some_lines : (ls : List Line) → Back units (ended (13 ∷ m.ending) ls) 0
      some_lines [] = refl
      some_lines (l ∷ ls) = start_ended 13 m.ending l ls

      go : (t : Bool) → Back units (cond t (ended (13 ∷ m.ending) ms) (ended (13 ∷ []) (m ∷ ms))) 0
      go true = some_lines ms
      go false = start_ended 13 [] m ms

  back_start : (cs : List ℕ) → Back units (lines_of cs) 0
  back_start [] = refl
  back_start (c ∷ cs) =
      let s = lines_some cs in
      subst (λ ls. Back units (cond (c == 10) (ended (10 ∷ []) ls) (cond (c == 13) (returned cs ls) (longer c ls))) 0) (sym s.2) (go s.0 s.1 (c == 10) (c == 13))
    where
      go : (m : Line) (ms : List Line) (t u : Bool) → Back units (cond t (ended (10 ∷ []) (m ∷ ms)) (cond u (returned cs (m ∷ ms)) (longer c (m ∷ ms)))) 0
      go m ms true u = start_ended 10 [] m ms
      go m ms false true = start_returned cs m ms
      go m ms false false = start_longer c m ms

  -- ---- one character further

  -- behind a line end of this length
  past_end : (ending : List ℕ) (cs : List ℕ) (n whole : ℕ) → byte_count ending + n ≡ whole → Back units (lines_of cs) n → Back units (ended ending (lines_of cs)) whole
  past_end ending cs n whole e h =
      let s = lines_some cs in
      subst (Back units (ended ending (lines_of cs))) e
      (subst (λ ls. Back units (ended ending ls) (byte_count ending + n)) (sym s.2) (back_ended ending s.0 s.1 n (subst (λ ls. Back units ls n) s.2 h)))

  past_character : (c : ℕ) (cs : List ℕ) (n : ℕ) → Back units (lines_of cs) n → Back units (longer c (lines_of cs)) (len_utf8 c + n)
  past_character c cs n h =
      let s = lines_some cs in
      subst (λ ls. Back units (longer c ls) (len_utf8 c + n)) (sym s.2) (back_longer c s.0 s.1 n (subst (λ ls. Back units ls n) s.2 h))

  -- what is known behind the next character
  abbrev Next : (xs ys : List ℕ) → Type 0
  Next [] ys = Unit {0}
  Next (d ∷ xs) ys = Back units (lines_of (xs ++ ys)) (byte_count xs)

  -- a carriage return alone, before a text with other lines
  past_alone : (d : ℕ) (zs : List ℕ) (n : ℕ) → (d == 10) ≡ false → Back units (lines_of (d ∷ zs)) n → Back units (returned (d ∷ zs) (lines_of (d ∷ zs))) (1 + n)
  past_alone d zs n q h =
      let s = lines_some (d ∷ zs) in
      subst (λ ls. Back units (returned (d ∷ zs) ls) (1 + n)) (sym s.2)
      (subst (λ t. Back units (cond t (ended (13 ∷ s.0.ending) s.1) (ended (13 ∷ []) (s.0 ∷ s.1))) (1 + n)) (sym q)
      (back_ended (13 ∷ []) s.0 s.1 n (subst (λ ls. Back units ls n) s.2 h)))

  past_return : (c : ℕ) (xs ys : List ℕ) → c ≡ 13 → (IsWithinEnd (c ∷ xs) ys → ⊥) → Back units (lines_of (xs ++ ys)) (byte_count xs) → Next xs ys → Back units (returned (xs ++ ys) (lines_of (xs ++ ys))) (1 + byte_count xs)
  past_return c [] [] ec apart h k = past_end (13 ∷ []) [] 0 1 refl h
  past_return c [] (d ∷ ys) ec apart h k = go (d == 10) refl
    where
      go : (t : Bool) → (d == 10) ≡ t → Back units (returned (d ∷ ys) (lines_of (d ∷ ys))) 1
      go true q = absurd (apart (ec, eqb-true d 10 q))
      go false q = past_alone d ys 0 q h
  past_return c (d ∷ xs) ys ec apart h k = go (d == 10) refl
    where
      lines : List Line
      lines = lines_of (xs ++ ys)

      both : d ≡ 10 → byte_count (13 ∷ 10 ∷ []) + byte_count xs ≡ 1 + byte_count (d ∷ xs)
      both e = omega (arith, sum_by-cons len_utf8 d xs, ap len_utf8 e)

      go : (t : Bool) → (d == 10) ≡ t → Back units (returned (d ∷ (xs ++ ys)) (lines_of (d ∷ (xs ++ ys)))) (1 + byte_count (d ∷ xs))
      go true q =
          subst (λ t. Back units (returned (d ∷ (xs ++ ys)) (cond t (ended (10 ∷ []) lines) (cond (d == 13) (returned (xs ++ ys) lines) (longer d lines)))) (1 + byte_count (d ∷ xs))) (sym q)
          (subst (λ t. Back units (cond t (ended (13 ∷ 10 ∷ []) lines) (ended (13 ∷ []) (ended (10 ∷ []) lines))) (1 + byte_count (d ∷ xs))) (sym q)
          (past_end (13 ∷ 10 ∷ []) (xs ++ ys) (byte_count xs) (1 + byte_count (d ∷ xs)) (both (eqb-true d 10 q)) k))
      go false q = past_alone d (xs ++ ys) (byte_count (d ∷ xs)) q h

  past_one : (c : ℕ) (xs ys : List ℕ) → (IsWithinEnd (c ∷ xs) ys → ⊥) → Back units (lines_of (xs ++ ys)) (byte_count xs) → Next xs ys → Back units (lines_of (c ∷ (xs ++ ys))) (byte_count (c ∷ xs))
  past_one c xs ys apart h k = go (c == 10) (c == 13) refl refl
    where
      lines : List Line
      lines = lines_of (xs ++ ys)

      one : (n : ℕ) → len_utf8 n ≡ 1 → c ≡ n → 1 + byte_count xs ≡ byte_count (c ∷ xs)
      one n l e = omega (arith, sum_by-cons len_utf8 c xs, ap len_utf8 e, l)

      go : (t u : Bool) → (c == 10) ≡ t → (c == 13) ≡ u → Back units (cond t (ended (10 ∷ []) lines) (cond u (returned (xs ++ ys) lines) (longer c lines))) (byte_count (c ∷ xs))
      go true u q r = past_end (10 ∷ []) (xs ++ ys) (byte_count xs) (byte_count (c ∷ xs)) (one 10 refl (eqb-true c 10 q)) h
      go false true q r =
          let e = eqb-true c 13 r in subst (Back units (returned (xs ++ ys) lines)) (one 13 refl e) (past_return c xs ys e apart h k)
      go false false q r = subst (Back units (longer c lines)) (sym (sum_by-cons len_utf8 c xs)) (past_character c (xs ++ ys) (byte_count xs) h)

  later : (d : ℕ) (xs ys : List ℕ) → (IsWithinEnd (d ∷ xs) ys → ⊥) → IsWithinEnd xs ys → ⊥
  later d [] ys apart = λ h. h
  later d (e ∷ xs) ys apart = apart

  pub round_trip : (xs ys : List ℕ) → (IsWithinEnd xs ys → ⊥) → Back units (lines_of (xs ++ ys)) (byte_count xs)
  round_trip [] ys apart = back_start ys
  round_trip (c ∷ []) ys apart = past_one c [] ys apart (back_start ys) tt
  round_trip (c ∷ d ∷ xs) ys apart = past_one c (d ∷ xs) ys apart (round_trip (d ∷ xs) ys apart) (round_trip xs ys (later d xs ys apart))

-- ---- in a text

pub some_units : (e : Encoding) (c : ℕ) → 1 ≤ units_of e c
some_units Utf8 c = (len_utf8_bounds c).0
some_units Utf16 c = go (ltb c 65536)
  where
    go : (t : Bool) → 1 ≤ cond t 1 2
    go true = omega arith
    go false = omega arith
some_units Utf32 c = omega arith

length-encodes : (cs : List ℕ) → length (encodes cs) ≡ byte_count cs
length-encodes [] = refl
length-encodes (c ∷ cs) = omega (arith, length-append (encode c) (encodes cs), length-encode c, length-encodes cs, sum_by-cons len_utf8 c cs)

pub offset_of_position : (e : Encoding) (text : List ℕ) (n : ℕ) → IsUtf8 text → IsCharBoundary text n → (IsWithinEnd (chars (take n text)) (chars (drop n text)) → ⊥) → offset_of e text (position_of e text n) ≡ n
offset_of_position e text n u b apart =
    let front = IsUtf8-take text n u b in
    let split : chars text ≡ chars (take n text) ++ chars (drop n text) = ap chars (sym (take-append-drop n text)) ∙ chars-append (take n text) (drop n text) front in
    let count : byte_count (chars (take n text)) ≡ n = sym (length-encodes (chars (take n text))) ∙ ap length (encodes-chars (take n text) front) ∙ length-take-le n text b.0 in
    subst (Back (units_of e) (lines_of (chars text))) count
    (subst (λ cs. Back (units_of e) (lines_of cs) (byte_count (chars (take n text)))) (sym split)
    (round_trip (units_of e) (some_units e) (chars (take n text)) (chars (drop n text)) apart))

-- ---- where no line ends

pub apart_by_next : (xs : List ℕ) (d : ℕ) (ys : List ℕ) → (d ≡ 10 → ⊥) → IsWithinEnd xs (d ∷ ys) → ⊥
apart_by_next [] d ys h = λ w. w
apart_by_next (c ∷ []) d ys h = λ w. h w.1
apart_by_next (c ∷ e ∷ xs) d ys h = apart_by_next (e ∷ xs) d ys h

pub apart_by_last : (xs : List ℕ) (c : ℕ) (ys : List ℕ) → (c ≡ 13 → ⊥) → IsWithinEnd (xs ++ c ∷ []) ys → ⊥
apart_by_last [] c [] h = λ w. w
apart_by_last [] c (d ∷ ys) h = λ w. h w.0
apart_by_last (b ∷ []) c ys h = apart_by_last [] c ys h
apart_by_last (b ∷ e ∷ xs) c ys h = apart_by_last (e ∷ xs) c ys h
