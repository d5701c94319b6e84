-- What is open behind data as they are written.
use Rattle.std.proofs.Common.{◌≡◌, ◌≤◌, ◌<◌, ◌+◌, ◌==◌, ℕ, length, List, [], ◌∷◌, ◌++◌, Bool, true, false, cond, Option, Some, None, Result, Ok, Err, refl, sym, ap, ◌∙◌, arith, append_assoc, append-nil}
use Rattle.std.proofs.lemmas.Bool.{lt-ltb}
use Rattle.std.proofs.lemmas.Bool.Decides.{nat_tests}
use Rattle.scheme_model.specs.Kinds as kinds
use Rattle.scheme_model.specs.Kinds.{Leaf, Token}
use Rattle.scheme_model.specs.Data.{Datum, atom, implied}
use Rattle.scheme_model.specs.Numbered.{Spot, Numbered, number_from, is_byte, at}
use Rattle.scheme_model.specs.Faults.{Stop, bad_dot, too_deep}
use Rattle.datum_reader.specs.Open.{Opener, in_list, dotted, ended, in_vector, in_bytes, marked, skipping, Frame, State, state, depth_of, reopened, refused, refused_by, unless, pushed, opened, completed, atoms, atoms_by, whole, byte_added, dotted_by, after_all, ends, read}
use Rattle.scheme_model.specs.Written.{Written, alone, listed, tailed, vectored, byted, abbreviated, Gap, nothing, skipped, Parts, last, next, Bytes, last_byte, byte, token, written_tokens, gap_tokens, parts_tokens, bytes_tokens, meant, parts_meant, bytes_meant, depth, gap_depth, parts_depth, bytes_depth}

-- a datum may begin; and it is added to the others
abbrev pub Free : List Frame → Type 0
Free fs = (t : Spot) → refused fs t ≡ None

abbrev pub Plain : List Frame → Type 0
Plain fs = (d : Datum) (items : List Datum) → completed d items fs ≡ state (items ++ d ∷ []) fs

pub opens : (o : Opener) (t : Spot) (xs : List Datum) (s : State) → depth_of s.stack < 400 → opened o t xs s ≡ Ok (pushed o (depth_of s.stack + 1) t xs s)
opens o t xs s h = ap (λ (b : Bool). cond b (Ok (pushed o (depth_of s.stack + 1) t xs s)) (Err (too_deep t))) (lt-ltb (depth_of s.stack) 400 h)

pub allowed : (o : Option Stop) (r : Result State Stop) → o ≡ None → unless o r ≡ r
allowed None r h = refl
allowed (Some e) r h = cc

pub opens_free : (o : Opener) (t : Spot) (xs : List Datum) (s : State) → Free s.stack → depth_of s.stack < 400 → unless (refused s.stack t) (opened o t xs s) ≡ Ok (pushed o (depth_of s.stack + 1) t xs s)
opens_free o t xs s free h = allowed (refused s.stack t) (opened o t xs s) (free t) ∙ opens o t xs s h

atom_by : (o : Opener) (k : Leaf) (t : Spot) (f : Frame) (items : List Datum) (fs : List Frame) → refused_by o t ≡ None → atoms_by o k t f items fs ≡ whole k t items (f ∷ fs)
atom_by in_list k t f items fs h = refl
atom_by (dotted dot) k t f items fs h = refl
atom_by (ended dot d) k t f items fs h = cc
atom_by in_vector k t f items fs h = refl
atom_by (in_bytes bs) k t f items fs h = cc
atom_by marked k t f items fs h = refl
atom_by skipping k t f items fs h = refl

atom_free : (k : Leaf) (t : Spot) (items : List Datum) (fs : List Frame) → Free fs → atoms k t items fs ≡ whole k t items fs
atom_free k t items [] free = refl
atom_free k t items (f ∷ fs) free = atom_by f.opener k t f items fs (free t)

pub some_part : (d : Datum) (ds : List Datum) → (length (d ∷ ds) == 0) ≡ false
some_part d ds = grind (arith, nat_tests)

pub first_dot : (b : Bool) (items : List Datum) (t : Spot) (f : Frame) (fs : List Frame) → (length items == 0) ≡ b →
    dotted_by in_list t f items fs ≡ cond b (Err (bad_dot t)) (Ok (state items (reopened (dotted t) f ∷ fs)))
first_dot b items t f fs h = ap (λ (c : Bool). cond c (Err (bad_dot t)) (Ok (state items (reopened (dotted t) f ∷ fs)))) h

pub a_byte : (text : List ℕ) (bs : List (List ℕ)) (t : Spot) (f : Frame) (items : List Datum) (fs : List Frame) → is_byte 0 text ≡ true →
    byte_added (cond (is_byte 0 text) (Some text) None) bs t f items fs ≡ Ok (state items (reopened (in_bytes (bs ++ text ∷ [])) f ∷ fs))
a_byte text bs t f items fs h = ap (λ (b : Bool). byte_added (cond b (Some text) None) bs t f items fs) h

abbrev pub frame : Opener → Spot → List Datum → ℕ → Frame
frame o t before n = record { opener = o; spot = t; before = before; depth = n }

-- reading goes on
pub run : (r q : Result State Stop) (ts : List Numbered) → r ≡ q → after_all r ts ≡ after_all q ts
run r q ts h = ap (λ (s : Result State Stop). after_all s ts) h

mutual
  pub pass_written : (w : Written) (items : List Datum) (fs : List Frame) (rest : List Numbered) → Free fs → depth_of fs + depth w ≤ 400 →
      after_all (Ok (state items fs)) (written_tokens w rest) ≡ after_all (Ok (completed (meant w) items fs)) rest
  pass_written (alone s leaf) items fs rest free h = run (atoms leaf s items fs) (whole leaf s items fs) rest (atom_free leaf s items fs free)
  pass_written (listed a ps b) items fs rest free h =
      let f = frame in_list a items (depth_of fs + 1) in
      run _ _ (parts_tokens ps (token b kinds.Close ∷ rest)) (opens_free in_list a [] (state items fs) free (omega arith))
      ∙ pass_parts ps [] (f ∷ fs) (token b kinds.Close ∷ rest) (λ t. refl) (λ d xs. refl) (omega arith)
  pass_written (tailed a g w ps dot h t i b) items fs rest free deep =
      let f = frame in_list a items (depth_of fs + 1) in
      let behind_dot = gap_tokens h (written_tokens t (gap_tokens i (token b kinds.Close ∷ rest))) in
      let f' = reopened (dotted dot) f in
      let f'' = reopened (ended dot (meant t)) f in
      let parts = meant w ∷ parts_meant ps in
      run _ _ (gap_tokens g (written_tokens w (parts_tokens ps (token dot kinds.Dot ∷ behind_dot)))) (opens_free in_list a [] (state items fs) free (omega arith))
      ∙ pass_gap g [] (f ∷ fs) (written_tokens w (parts_tokens ps (token dot kinds.Dot ∷ behind_dot))) (omega arith)
      ∙ pass_written w [] (f ∷ fs) (parts_tokens ps (token dot kinds.Dot ∷ behind_dot)) (λ t. refl) (omega arith)
      ∙ pass_parts ps (meant w ∷ []) (f ∷ fs) (token dot kinds.Dot ∷ behind_dot) (λ t. refl) (λ d xs. refl) (omega arith)
      ∙ run _ _ behind_dot (first_dot false parts dot f fs (some_part (meant w) (parts_meant ps)))
      ∙ pass_gap h parts (f' ∷ fs) (written_tokens t (gap_tokens i (token b kinds.Close ∷ rest))) (omega arith)
      ∙ pass_written t parts (f' ∷ fs) (gap_tokens i (token b kinds.Close ∷ rest)) (λ t. refl) (omega arith)
      ∙ pass_gap i parts (f'' ∷ fs) (token b kinds.Close ∷ rest) (omega arith)
  pass_written (vectored a ps b) items fs rest free h =
      let f = frame in_vector a items (depth_of fs + 1) in
      run _ _ (parts_tokens ps (token b kinds.Close ∷ rest)) (opens_free in_vector a [] (state items fs) free (omega arith))
      ∙ pass_parts ps [] (f ∷ fs) (token b kinds.Close ∷ rest) (λ t. refl) (λ d xs. refl) (omega arith)
  pass_written (byted a bs b) items fs rest free h =
      let f = frame (in_bytes []) a items (depth_of fs) in
      run _ _ (bytes_tokens bs (token b kinds.Close ∷ rest)) (allowed (refused fs a) (Ok (state [] (f ∷ fs))) (free a))
      ∙ pass_bytes bs [] f fs (token b kinds.Close ∷ rest) (omega arith)
  pass_written (abbreviated s mark g w) items fs rest free h =
      let m = atom (at s) (implied mark) in
      let f = frame marked s items (depth_of fs + 1) in
      run _ _ (gap_tokens g (written_tokens w rest)) (opens_free marked s (m ∷ []) (state items fs) free (omega arith))
      ∙ pass_gap g (m ∷ []) (f ∷ fs) (written_tokens w rest) (omega arith)
      ∙ pass_written w (m ∷ []) (f ∷ fs) rest (λ t. refl) (omega arith)

  pub pass_gap : (g : Gap) (items : List Datum) (fs : List Frame) (rest : List Numbered) → depth_of fs + gap_depth g ≤ 400 →
      after_all (Ok (state items fs)) (gap_tokens g rest) ≡ after_all (Ok (state items fs)) rest
  pass_gap nothing items fs rest h = refl
  pass_gap (skipped s g w i) items fs rest h =
      let f = frame skipping s items (depth_of fs + 1) in
      run _ _ (gap_tokens g (written_tokens w (gap_tokens i rest))) (opens skipping s [] (state items fs) (omega arith))
      ∙ pass_gap g [] (f ∷ fs) (written_tokens w (gap_tokens i rest)) (omega arith)
      ∙ pass_written w [] (f ∷ fs) (gap_tokens i rest) (λ t. refl) (omega arith)
      ∙ pass_gap i items fs rest (omega arith)

  pub pass_parts : (ps : Parts) (items : List Datum) (fs : List Frame) (rest : List Numbered) → Free fs → Plain fs → depth_of fs + parts_depth ps ≤ 400 →
      after_all (Ok (state items fs)) (parts_tokens ps rest) ≡ after_all (Ok (state (items ++ parts_meant ps) fs)) rest
  pass_parts (last g) items fs rest free plain h =
      pass_gap g items fs rest (omega arith) ∙ ap (λ (q : List Datum). after_all (Ok (state q fs)) rest) (sym (append-nil items))
  pass_parts (next g w ps) items fs rest free plain h =
      pass_gap g items fs (written_tokens w (parts_tokens ps rest)) (omega arith)
      ∙ pass_written w items fs (parts_tokens ps rest) free (omega arith)
      ∙ ap (λ (s : State). after_all (Ok s) (parts_tokens ps rest)) (plain (meant w) items)
      ∙ pass_parts ps (items ++ meant w ∷ []) fs rest free plain (omega arith)
      ∙ ap (λ (q : List Datum). after_all (Ok (state q fs)) rest) (append_assoc items (meant w ∷ []) (parts_meant ps))

  pub pass_bytes : (bs : Bytes) (xs : List (List ℕ)) (f : Frame) (fs : List Frame) (rest : List Numbered) → f.depth + bytes_depth bs ≤ 400 →
      after_all (Ok (state [] (reopened (in_bytes xs) f ∷ fs))) (bytes_tokens bs rest) ≡ after_all (Ok (state [] (reopened (in_bytes (xs ++ bytes_meant bs)) f ∷ fs))) rest
  pass_bytes (last_byte g) xs f fs rest h =
      pass_gap g [] (reopened (in_bytes xs) f ∷ fs) rest (omega arith) ∙ ap (λ (q : List (List ℕ)). after_all (Ok (state [] (reopened (in_bytes q) f ∷ fs))) rest) (sym (append-nil xs))
  pass_bytes (byte g s text fits bs) xs f fs rest h =
      pass_gap g [] (reopened (in_bytes xs) f ∷ fs) (token s (kinds.Atomic (kinds.Numeral text)) ∷ bytes_tokens bs rest) (omega arith)
      ∙ run _ _ (bytes_tokens bs rest) (a_byte text xs s (reopened (in_bytes xs) f) [] fs fits)
      ∙ pass_bytes bs (xs ++ text ∷ []) f fs rest (omega arith)
      ∙ ap (λ (q : List (List ℕ)). after_all (Ok (state [] (reopened (in_bytes q) f ∷ fs))) rest) (append_assoc xs (text ∷ []) (bytes_meant bs))

-- data as they are written give what they mean
pub reads_parts : (ps : Parts) (ts : List Token) → parts_tokens ps [] ≡ number_from 0 ts → parts_depth ps ≤ 400 → read ts None ≡ Ok (parts_meant ps)
reads_parts ps ts e h =
    ap (λ (q : List Numbered). ends (after_all (Ok (state [] [])) q) None) (sym e)
    ∙ ap (λ (r : Result State Stop). ends r None) (pass_parts ps [] [] [] (λ t. refl) (λ d xs. refl) (omega arith))
