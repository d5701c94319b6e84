-- What reading goes through are data that are partly written: one token more, and all tokens.
use Rattle.std.proofs.Common.{◌≡◌, ℕ, ◌+◌, ◌≤◌, ◌<◌, ◌==◌, length, List, [], ◌∷◌, ◌++◌, Bool, true, false, cond, nat_lt, Option, Some, None, Result, Ok, Err, refl, sym, ap, ◌∙◌, arith, append-nil}
use Rattle.std.proofs.lemmas.Bool.Decides.{nat_tests}
use Rattle.scheme_model.specs.Kinds as kinds
use Rattle.scheme_model.specs.Kinds.{TokenKind, Leaf}
use Rattle.scheme_model.specs.Data.{Datum, list, vector, bytes, row, none, atom, implied}
use Rattle.scheme_model.specs.Numbered.{Spot, Numbered, is_byte, between, at}
use Rattle.scheme_model.specs.Faults.{Stop, bad_dot, bad_byte, too_deep, stray_close, missing_datum}
use Rattle.datum_reader.specs.Open.{Opener, in_list, in_vector, in_bytes, marked, skipping, dotted, Frame, State, state, depth_of, reopened, refused, unless, pushed, opened, completed, whole, byte_added, after, after_all}
use Rattle.scheme_model.specs.Written.{Written, alone, listed, tailed, vectored, byted, Gap, nothing, Parts, last, next, last_byte, token, written_tokens, parts_tokens, meant, parts_meant, depth, parts_depth}
use Rattle.datum_reader.proofs.StepLaws.{stays_err}
use Rattle.scheme_model.specs.Begun.{Row, start, more, ByteRow, no_bytes, one_byte, listing, behind_dot, behind_tail, vectoring, byting, behind_mark, behind_skip, Begun, top, inside, begun_tokens, Takes}
use Rattle.datum_reader.proofs.Begun.{row_meant, numerals_of, begun_items, begun_stack, begun_state, Sound, complete, parts_from, bytes_from}
use Rattle.datum_reader.proofs.Completing.{parts_from-tokens, parts_from-meant, parts_from-depth, bytes_from-tokens, bytes_from-meant, bytes_from-depth, complete-state, complete-tokens, complete-sound}

-- with one token more, reading is in this state: that of data that are partly written by the token more
pub record Reached (b : Begun) (k : TokenKind) (t : Spot) (s : State) : Type 0 where
  pub now : Begun
  pub sound : Sound now
  pub is : begun_state now ≡ s
  pub tokens : (rest : List Numbered) → begun_tokens now rest ≡ begun_tokens b (token t k ∷ rest)

err_ok : {A : Type 0} (e : Stop) (s : State) → (r : Result State Stop) → r ≡ Err e → r ≡ Ok s → A
err_ok e s r h k = let never : ⊥ = cc in absurd never

ok_same : (s u : State) (r : Result State Stop) → r ≡ Ok s → r ≡ Ok u → s ≡ u
ok_same s u r h k = cc

unless_ok : (o : Option Stop) (r : Result State Stop) (s : State) → unless o r ≡ Ok s → (o ≡ None) × (r ≡ Ok s)
unless_ok None r s h = (refl, h)
unless_ok (Some e) r s h = (cc, cc)

then_ok : (b : Bool) (p : State) (e : Stop) (s : State) → cond b (Ok p) (Err e) ≡ Ok s → (b ≡ true) × (p ≡ s)
then_ok true p e s h = (refl, cc)
then_ok false p e s h = (cc, cc)

else_ok : (b : Bool) (p : State) (e : Stop) (s : State) → cond b (Err e) (Ok p) ≡ Ok s → (b ≡ false) × (p ≡ s)
else_ok true p e s h = (cc, cc)
else_ok false p e s h = (refl, cc)

below : (m n : ℕ) → nat_lt m n ≡ true → m < n
below m n h = grind (arith, nat_tests)

opened_ok : (o : Opener) (t : Spot) (xs : List Datum) (s u : State) → opened o t xs s ≡ Ok u → (depth_of s.stack < 400) × (pushed o (depth_of s.stack + 1) t xs s ≡ u)
opened_ok o t xs s u h =
    let p = then_ok (nat_lt (depth_of s.stack) 400) (pushed o (depth_of s.stack + 1) t xs s) (too_deep t) u h in
    (below (depth_of s.stack) 400 p.0, p.1)

some_none : {A : Type 0} (e : Stop) → (o : Option Stop) → o ≡ Some e → o ≡ None → A
some_none e o h k = let never : ⊥ = cc in absurd never

takes_free : (b : Begun) (t : Spot) → refused (begun_stack b) t ≡ None → Takes b
takes_free (top r g) t h = tt
takes_free (inside b s (listing r g)) t h = tt
takes_free (inside b s (behind_dot g w ps dot k)) t h = tt
takes_free (inside b s (behind_tail g w ps dot k u i)) t h = some_none (bad_dot dot) (Some (bad_dot dot)) refl h
takes_free (inside b s (vectoring r g)) t h = tt
takes_free (inside b s (byting r g)) t h = some_none (bad_byte t) (Some (bad_byte t)) refl h
takes_free (inside b s (behind_mark mark g)) t h = tt
takes_free (inside b s (behind_skip g)) t h = tt

few : (b : Begun) → Sound b → depth_of (begun_stack b) ≤ 400
few (top r g) ok = omega arith
few (inside b s i) ok = omega (arith, ok.2)

-- ---- one more is open

opens_list : (b : Begun) (t : Spot) (s : State) → Sound b → after kinds.Paren t (begun_state b) ≡ Ok s → Reached b kinds.Paren t s
opens_list b t s ok h =
    let u = unless_ok (refused (begun_stack b) t) (opened in_list t [] (begun_state b)) s h in
    let o = opened_ok in_list t [] (begun_state b) s u.1 in
    record { now = inside b t (listing start nothing); sound = (ok, takes_free b t u.0, omega (arith, o.0)); is = o.1; tokens = λ rest. refl }

opens_vector : (b : Begun) (t : Spot) (s : State) → Sound b → after kinds.VectorParen t (begun_state b) ≡ Ok s → Reached b kinds.VectorParen t s
opens_vector b t s ok h =
    let u = unless_ok (refused (begun_stack b) t) (opened in_vector t [] (begun_state b)) s h in
    let o = opened_ok in_vector t [] (begun_state b) s u.1 in
    record { now = inside b t (vectoring start nothing); sound = (ok, takes_free b t u.0, omega (arith, o.0)); is = o.1; tokens = λ rest. refl }

opens_bytes : (b : Begun) (t : Spot) (s : State) → Sound b → after kinds.BytesParen t (begun_state b) ≡ Ok s → Reached b kinds.BytesParen t s
opens_bytes b t s ok h =
    let p = pushed (in_bytes []) (depth_of (begun_stack b)) t [] (begun_state b) in
    let u = unless_ok (refused (begun_stack b) t) (Ok p) s h in
    record { now = inside b t (byting no_bytes nothing); sound = (ok, takes_free b t u.0, omega (arith, few b ok)); is = ok_same p s (Ok p) refl u.1; tokens = λ rest. refl }

opens_mark : (mark : kinds.Mark) (b : Begun) (t : Spot) (s : State) → Sound b → after (kinds.Marked mark) t (begun_state b) ≡ Ok s → Reached b (kinds.Marked mark) t s
opens_mark mark b t s ok h =
    let m = atom (at t) (implied mark) ∷ [] in
    let u = unless_ok (refused (begun_stack b) t) (opened marked t m (begun_state b)) s h in
    let o = opened_ok marked t m (begun_state b) s u.1 in
    record { now = inside b t (behind_mark mark nothing); sound = (ok, takes_free b t u.0, omega (arith, o.0)); is = o.1; tokens = λ rest. refl }

opens_skip : (b : Begun) (t : Spot) (s : State) → Sound b → after kinds.Skip t (begun_state b) ≡ Ok s → Reached b kinds.Skip t s
opens_skip b t s ok h =
    let o = opened_ok skipping t [] (begun_state b) s h in
    record { now = inside b t (behind_skip nothing); sound = (ok, tt, omega (arith, o.0)); is = o.1; tokens = λ rest. refl }

-- ---- a datum is complete

completes : (b c : Begun) (w : Written) (k : TokenKind) (t : Spot) (d : Datum) (s : State) → Sound c → Takes c → depth_of (begun_stack c) + depth w ≤ 400 → meant w ≡ d →
    (r : Result State Stop) → r ≡ Ok (completed d (begun_items c) (begun_stack c)) → r ≡ Ok s →
    ((rest : List Numbered) → begun_tokens c (written_tokens w rest) ≡ begun_tokens b (token t k ∷ rest)) → Reached b k t s
completes b c w k t d s ok takes lt is r made h joins = record {
  now = complete c w;
  sound = complete-sound c w ok takes lt;
  is = complete-state c w ok takes ∙ ap (λ (q : Datum). completed q (begun_items c) (begun_stack c)) is ∙ ok_same (completed d (begun_items c) (begun_stack c)) s r made h;
  tokens = λ rest. complete-tokens c w rest ok takes ∙ joins rest;
}

row_last : (r : Row) (g : Gap) → parts_meant (parts_from r (last g)) ≡ row_meant r
row_last r g = parts_from-meant r (last g) ∙ append-nil (row_meant r)

closes : (b : Begun) (t : Spot) (s : State) → Sound b → after kinds.Close t (begun_state b) ≡ Ok s → Reached b kinds.Close t s
closes (top r g) t s ok h = err_ok (stray_close t) s (Err (stray_close t)) refl h
closes (inside b u (listing r g)) t s ok h =
    let p = parts_from r (last g) in
    let d = list (between u t) (row (row_meant r) none) in
    completes (inside b u (listing r g)) b (listed u p t) kinds.Close t d s ok.0 ok.1 (omega (arith, ok.2, parts_from-depth r (last g)))
    (ap (λ (q : List Datum). list (between u t) (row q none)) (row_last r g)) (Ok (completed d (begun_items b) (begun_stack b))) refl h
    (λ rest. ap (λ (q : List Numbered). begun_tokens b (token u kinds.Paren ∷ q)) (parts_from-tokens r (last g) (token t kinds.Close ∷ rest)))
closes (inside b u (behind_dot g w ps dot k)) t s ok h = err_ok (bad_dot dot) s (Err (bad_dot dot)) refl h
closes (inside b u (behind_tail g w ps dot k v i)) t s ok h =
    let d = tailed u g w ps dot k v i t in
    completes (inside b u (behind_tail g w ps dot k v i)) b d kinds.Close t (meant d) s ok.0 ok.1 (omega (arith, ok.2)) refl (Ok (completed (meant d) (begun_items b) (begun_stack b))) refl h (λ rest. refl)
closes (inside b u (vectoring r g)) t s ok h =
    let p = parts_from r (last g) in
    let d = vector (between u t) (row (row_meant r) none) in
    completes (inside b u (vectoring r g)) b (vectored u p t) kinds.Close t d s ok.0 ok.1 (omega (arith, ok.2, parts_from-depth r (last g)))
    (ap (λ (q : List Datum). vector (between u t) (row q none)) (row_last r g)) (Ok (completed d (begun_items b) (begun_stack b))) refl h
    (λ rest. ap (λ (q : List Numbered). begun_tokens b (token u kinds.VectorParen ∷ q)) (parts_from-tokens r (last g) (token t kinds.Close ∷ rest)))
closes (inside b u (byting r g)) t s ok h =
    let d = bytes (between u t) (numerals_of r) in
    completes (inside b u (byting r g)) b (byted u (bytes_from r (last_byte g)) t) kinds.Close t d s ok.0 ok.1 (omega (arith, ok.2, bytes_from-depth r (last_byte g)))
    (ap (bytes (between u t)) (bytes_from-meant r (last_byte g) ∙ append-nil (numerals_of r))) (Ok (completed d (begun_items b) (begun_stack b))) refl h
    (λ rest. ap (λ (q : List Numbered). begun_tokens b (token u kinds.BytesParen ∷ q)) (bytes_from-tokens r (last_byte g) (token t kinds.Close ∷ rest)))
closes (inside b u (behind_mark mark g)) t s ok h = err_ok (missing_datum u) s (Err (missing_datum u)) refl h
closes (inside b u (behind_skip g)) t s ok h = err_ok (missing_datum u) s (Err (missing_datum u)) refl h

-- ---- a dot

front : (r : Row) (g : Gap) (w : Written) (ps : Parts) → (h : Gap) × (v : Written) × (qs : Parts) × (parts_from r (next g w ps) ≡ next h v qs)
front start g w ps = (g, w, ps, refl)
front (more r h v) g w ps = front r h v (next g w ps)

first_part : (r : Row) (ps : Parts) → (length (row_meant r) == 0) ≡ false → (g : Gap) × (w : Written) × (qs : Parts) × (parts_from r ps ≡ next g w qs)
first_part start ps h = let never : ⊥ = cc in absurd never
first_part (more r g w) ps h = front r g w ps

dots : (b : Begun) (t : Spot) (s : State) → Sound b → after kinds.Dot t (begun_state b) ≡ Ok s → Reached b kinds.Dot t s
dots (top r g) t s ok h = err_ok (bad_dot t) s (Err (bad_dot t)) refl h
dots (inside b u (listing r g)) t s ok h =
    let f : Frame = record { opener = dotted t; spot = u; before = begun_items b; depth = depth_of (begun_stack b) + 1 } in
    let p = else_ok (length (row_meant r) == 0) (state (row_meant r) (f ∷ begun_stack b)) (bad_dot t) s h in
    let q = first_part r (last g) p.0 in
    record {
      now = inside b u (behind_dot q.0 q.1 q.2 t nothing);
      sound = (ok.0, ok.1, omega (arith, ok.2, ap parts_depth q.3, parts_from-depth r (last g)));
      is = ap (λ (x : List Datum). state x (f ∷ begun_stack b)) (ap parts_meant (sym q.3) ∙ row_last r g) ∙ p.1;
      tokens = λ rest.
          ap (λ (x : Parts). begun_tokens b (token u kinds.Paren ∷ parts_tokens x (token t kinds.Dot ∷ rest))) (sym q.3)
          ∙ ap (λ (x : List Numbered). begun_tokens b (token u kinds.Paren ∷ x)) (parts_from-tokens r (last g) (token t kinds.Dot ∷ rest));
    }
dots (inside b u (behind_dot g w ps dot k)) t s ok h = err_ok (bad_dot t) s (Err (bad_dot t)) refl h
dots (inside b u (behind_tail g w ps dot k v i)) t s ok h = err_ok (bad_dot t) s (Err (bad_dot t)) refl h
dots (inside b u (vectoring r g)) t s ok h = err_ok (bad_dot t) s (Err (bad_dot t)) refl h
dots (inside b u (byting r g)) t s ok h = err_ok (bad_byte t) s (Err (bad_byte t)) refl h
dots (inside b u (behind_mark mark g)) t s ok h = err_ok (bad_dot t) s (Err (bad_dot t)) refl h
dots (inside b u (behind_skip g)) t s ok h = err_ok (bad_dot t) s (Err (bad_dot t)) refl h

-- ---- an atom

stands_alone : (leaf : Leaf) (b : Begun) (t : Spot) (s : State) → Sound b → Takes b → whole leaf t (begun_items b) (begun_stack b) ≡ Ok s → Reached b (kinds.Atomic leaf) t s
stands_alone leaf b t s ok takes h =
    completes b b (alone t leaf) (kinds.Atomic leaf) t (meant (alone t leaf)) s ok takes (omega (arith, few b ok)) refl (whole leaf t (begun_items b) (begun_stack b)) refl h (λ rest. refl)

numeral : (text : List ℕ) (fits : Bool) → is_byte 0 text ≡ fits → (r : ByteRow) (g : Gap) (b : Begun) (u t : Spot) (f : Frame) (s : State) → f ≡ record { opener = in_bytes (numerals_of r); spot = u; before = begun_items b; depth = depth_of (begun_stack b) } →
    Sound (inside b u (byting r g)) → byte_added (cond fits (Some text) None) (numerals_of r) t f [] (begun_stack b) ≡ Ok s → Reached (inside b u (byting r g)) (kinds.Atomic (kinds.Numeral text)) t s
numeral text true e r g b u t f s is ok h =
    let p = state [] (reopened (in_bytes (numerals_of r ++ text ∷ [])) f ∷ begun_stack b) in
    record {
      now = inside b u (byting (one_byte r g t text e) nothing);
      sound = (ok.0, ok.1, omega (arith, ok.2));
      is = ap (λ (q : Frame). state [] (reopened (in_bytes (numerals_of r ++ text ∷ [])) q ∷ begun_stack b)) (sym is) ∙ ok_same p s (Ok p) refl h;
      tokens = λ rest. refl;
    }
numeral text false e r g b u t f s is ok h = err_ok (bad_byte t) s (Err (bad_byte t)) refl h

a_byte : (leaf : Leaf) (r : ByteRow) (g : Gap) (b : Begun) (u t : Spot) (s : State) → Sound (inside b u (byting r g)) →
    after (kinds.Atomic leaf) t (begun_state (inside b u (byting r g))) ≡ Ok s → Reached (inside b u (byting r g)) (kinds.Atomic leaf) t s
a_byte (kinds.Name name bars) r g b u t s ok h = err_ok (bad_byte t) s (Err (bad_byte t)) refl h
a_byte (kinds.Numeral text) r g b u t s ok h =
    numeral text (is_byte 0 text) refl r g b u t (record { opener = in_bytes (numerals_of r); spot = u; before = begun_items b; depth = depth_of (begun_stack b) }) s refl ok h
a_byte (kinds.Quoted text) r g b u t s ok h = err_ok (bad_byte t) s (Err (bad_byte t)) refl h
a_byte (kinds.Character c) r g b u t s ok h = err_ok (bad_byte t) s (Err (bad_byte t)) refl h
a_byte (kinds.Truth v) r g b u t s ok h = err_ok (bad_byte t) s (Err (bad_byte t)) refl h

an_atom : (leaf : Leaf) (b : Begun) (t : Spot) (s : State) → Sound b → after (kinds.Atomic leaf) t (begun_state b) ≡ Ok s → Reached b (kinds.Atomic leaf) t s
an_atom leaf (top r g) t s ok h = stands_alone leaf (top r g) t s ok tt h
an_atom leaf (inside b u (listing r g)) t s ok h = stands_alone leaf (inside b u (listing r g)) t s ok tt h
an_atom leaf (inside b u (behind_dot g w ps dot k)) t s ok h = stands_alone leaf (inside b u (behind_dot g w ps dot k)) t s ok tt h
an_atom leaf (inside b u (behind_tail g w ps dot k v i)) t s ok h = err_ok (bad_dot dot) s (Err (bad_dot dot)) refl h
an_atom leaf (inside b u (vectoring r g)) t s ok h = stands_alone leaf (inside b u (vectoring r g)) t s ok tt h
an_atom leaf (inside b u (byting r g)) t s ok h = a_byte leaf r g b u t s ok h
an_atom leaf (inside b u (behind_mark mark g)) t s ok h = stands_alone leaf (inside b u (behind_mark mark g)) t s ok tt h
an_atom leaf (inside b u (behind_skip g)) t s ok h = stands_alone leaf (inside b u (behind_skip g)) t s ok tt h

-- ---- any token, and all tokens

pub reached : (k : TokenKind) (b : Begun) (t : Spot) (s : State) → Sound b → after k t (begun_state b) ≡ Ok s → Reached b k t s
reached kinds.Paren b t s ok h = opens_list b t s ok h
reached kinds.VectorParen b t s ok h = opens_vector b t s ok h
reached kinds.BytesParen b t s ok h = opens_bytes b t s ok h
reached kinds.Close b t s ok h = closes b t s ok h
reached kinds.Dot b t s ok h = dots b t s ok h
reached kinds.Skip b t s ok h = opens_skip b t s ok h
reached (kinds.Marked mark) b t s ok h = opens_mark mark b t s ok h
reached (kinds.Atomic leaf) b t s ok h = an_atom leaf b t s ok h

-- behind these tokens, reading is in this state
pub record Through (b : Begun) (ts : List Numbered) (s : State) : Type 0 where
  pub now : Begun
  pub sound : Sound now
  pub is : begun_state now ≡ s
  pub tokens : (rest : List Numbered) → begun_tokens now rest ≡ begun_tokens b (ts ++ rest)

one_more : (t : Numbered) (ts : List Numbered) (b : Begun) (s : State) → Sound b → ((c : Begun) → Sound c → after_all (Ok (begun_state c)) ts ≡ Ok s → Through c ts s) →
    (r : Result State Stop) → after t.kind t.spot (begun_state b) ≡ r → after_all r ts ≡ Ok s → Through b (t ∷ ts) s
one_more t ts b s ok goes (Ok u) e h =
    let m = reached t.kind b t.spot u ok e in
    let q = goes m.now m.sound (ap (λ (x : State). after_all (Ok x) ts) m.is ∙ h) in
    record { now = q.now; sound = q.sound; is = q.is; tokens = λ rest. q.tokens rest ∙ m.tokens (ts ++ rest) }
one_more t ts b s ok goes (Err f) e h = let never : ⊥ = err_ok f s (after_all (Err f) ts) (stays_err f ts) h in absurd never

pub through : (ts : List Numbered) (b : Begun) (s : State) → Sound b → after_all (Ok (begun_state b)) ts ≡ Ok s → Through b ts s
through [] b s ok h = record { now = b; sound = ok; is = ok_same (begun_state b) s (Ok (begun_state b)) refl h; tokens = λ rest. refl }
through (t ∷ ts) b s ok h = one_more t ts b s ok (λ c sound e. through ts c s sound e) (after t.kind t.spot (begun_state b)) refl h
