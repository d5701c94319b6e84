-- Reading data that are partly written leads to their state.
use Rattle.std.proofs.Common.{◌≡◌, ℕ, ◌+◌, ◌≤◌, List, [], ◌∷◌, ◌++◌, Ok, refl, sym, ap, ◌∙◌, false, arith, append_assoc, append-nil}
use Rattle.scheme_model.specs.Kinds as kinds
use Rattle.scheme_model.specs.Data.{Datum, atom, implied}
use Rattle.scheme_model.specs.Numbered.{Spot, Numbered, at}
use Rattle.scheme_model.specs.Written.{token, written_tokens, gap_tokens, parts_tokens, meant, parts_meant}
use Rattle.scheme_model.specs.Begun.{Row, start, more, ByteRow, no_bytes, one_byte, Inside, listing, behind_dot, behind_tail, vectoring, byting, behind_mark, behind_skip, Begun, top, inside, row_tokens, bytes_before, inside_tokens, begun_tokens, Takes, row_depth, byte_row_depth}
use Rattle.datum_reader.specs.Open.{in_list, in_vector, in_bytes, marked, skipping, dotted, ended, Frame, State, state, depth_of, reopened, refused, after_all}
use Rattle.datum_reader.proofs.Passing.{Free, Plain, frame, run, opens, opens_free, allowed, first_dot, some_part, a_byte, pass_written, pass_gap, pass_parts}
use Rattle.datum_reader.proofs.Begun.{row_meant, numerals_of, begun_items, begun_stack, begun_state, Sound}

free_of : (b : Begun) → Takes b → Free (begun_stack b)
free_of (top r g) h t = refl
free_of (inside b s (listing r g)) h t = refl
free_of (inside b s (behind_dot g w ps dot k)) h t = refl
free_of (inside b s (behind_tail g w ps dot k v i)) h t = absurd h
free_of (inside b s (vectoring r g)) h t = refl
free_of (inside b s (byting r g)) h t = absurd h
free_of (inside b s (behind_mark mark g)) h t = refl
free_of (inside b s (behind_skip g)) h t = refl

pass_row : (r : Row) (items : List Datum) (fs : List Frame) (rest : List Numbered) → Free fs → Plain fs → depth_of fs + row_depth r ≤ 400 →
    after_all (Ok (state items fs)) (row_tokens r rest) ≡ after_all (Ok (state (items ++ row_meant r) fs)) rest
pass_row start items fs rest free plain h = ap (λ (q : List Datum). after_all (Ok (state q fs)) rest) (sym (append-nil items))
pass_row (more r g w) items fs rest free plain h =
    pass_row r items fs (gap_tokens g (written_tokens w rest)) free plain (omega arith)
    ∙ pass_gap g (items ++ row_meant r) fs (written_tokens w rest) (omega arith)
    ∙ pass_written w (items ++ row_meant r) fs rest free (omega arith)
    ∙ ap (λ (s : State). after_all (Ok s) rest) (plain (meant w) (items ++ row_meant r))
    ∙ ap (λ (q : List Datum). after_all (Ok (state q fs)) rest) (append_assoc items (row_meant r) (meant w ∷ []))

pass_byte_row : (r : ByteRow) (xs : List (List ℕ)) (f : Frame) (fs : List Frame) (rest : List Numbered) → f.depth + byte_row_depth r ≤ 400 →
    after_all (Ok (state [] (reopened (in_bytes xs) f ∷ fs))) (bytes_before r rest) ≡ after_all (Ok (state [] (reopened (in_bytes (xs ++ numerals_of r)) f ∷ fs))) rest
pass_byte_row no_bytes xs f fs rest h = ap (λ (q : List (List ℕ)). after_all (Ok (state [] (reopened (in_bytes q) f ∷ fs))) rest) (sym (append-nil xs))
pass_byte_row (one_byte r g s text fits) xs f fs rest h =
    let ys = xs ++ numerals_of r in
    pass_byte_row r xs f fs (gap_tokens g (token s (kinds.Atomic (kinds.Numeral text)) ∷ rest)) (omega arith)
    ∙ pass_gap g [] (reopened (in_bytes ys) f ∷ fs) (token s (kinds.Atomic (kinds.Numeral text)) ∷ rest) (omega arith)
    ∙ run _ _ rest (a_byte text ys s (reopened (in_bytes ys) f) [] fs fits)
    ∙ ap (λ (q : List (List ℕ)). after_all (Ok (state [] (reopened (in_bytes q) f ∷ fs))) rest) (append_assoc xs (numerals_of r) (text ∷ []))

-- what stands behind an opening token so far
pass_inside : (b : Begun) (s : Spot) (i : Inside) (rest : List Numbered) → Sound (inside b s i) → after_all (Ok (begun_state b)) (inside_tokens s i rest) ≡ after_all (Ok (begun_state (inside b s i))) rest
pass_inside b s (listing r g) rest ok =
    let fs = begun_stack b in
    let f = frame in_list s (begun_items b) (depth_of fs + 1) in
    run _ _ (row_tokens r (gap_tokens g rest)) (opens_free in_list s [] (begun_state b) (free_of b ok.1) (omega (arith, ok.2)))
    ∙ pass_row r [] (f ∷ fs) (gap_tokens g rest) (λ t. refl) (λ d xs. refl) (omega (arith, ok.2))
    ∙ pass_gap g (row_meant r) (f ∷ fs) rest (omega (arith, ok.2))
pass_inside b s (behind_dot g w ps dot h) rest ok =
    let fs = begun_stack b in
    let f = frame in_list s (begun_items b) (depth_of fs + 1) in
    let parts = meant w ∷ parts_meant ps in
    let behind = token dot kinds.Dot ∷ gap_tokens h rest in
    run _ _ (gap_tokens g (written_tokens w (parts_tokens ps behind))) (opens_free in_list s [] (begun_state b) (free_of b ok.1) (omega (arith, ok.2)))
    ∙ pass_gap g [] (f ∷ fs) (written_tokens w (parts_tokens ps behind)) (omega (arith, ok.2))
    ∙ pass_written w [] (f ∷ fs) (parts_tokens ps behind) (λ t. refl) (omega (arith, ok.2))
    ∙ pass_parts ps (meant w ∷ []) (f ∷ fs) behind (λ t. refl) (λ d xs. refl) (omega (arith, ok.2))
    ∙ run _ _ (gap_tokens h rest) (first_dot false parts dot f fs (some_part (meant w) (parts_meant ps)))
    ∙ pass_gap h parts (reopened (dotted dot) f ∷ fs) rest (omega (arith, ok.2))
pass_inside b s (behind_tail g w ps dot h t i) rest ok =
    let fs = begun_stack b in
    let f = frame in_list s (begun_items b) (depth_of fs + 1) in
    let parts = meant w ∷ parts_meant ps in
    let behind = token dot kinds.Dot ∷ gap_tokens h (written_tokens t (gap_tokens i rest)) in
    run _ _ (gap_tokens g (written_tokens w (parts_tokens ps behind))) (opens_free in_list s [] (begun_state b) (free_of b ok.1) (omega (arith, ok.2)))
    ∙ pass_gap g [] (f ∷ fs) (written_tokens w (parts_tokens ps behind)) (omega (arith, ok.2))
    ∙ pass_written w [] (f ∷ fs) (parts_tokens ps behind) (λ u. refl) (omega (arith, ok.2))
    ∙ pass_parts ps (meant w ∷ []) (f ∷ fs) behind (λ u. refl) (λ d xs. refl) (omega (arith, ok.2))
    ∙ run _ _ (gap_tokens h (written_tokens t (gap_tokens i rest))) (first_dot false parts dot f fs (some_part (meant w) (parts_meant ps)))
    ∙ pass_gap h parts (reopened (dotted dot) f ∷ fs) (written_tokens t (gap_tokens i rest)) (omega (arith, ok.2))
    ∙ pass_written t parts (reopened (dotted dot) f ∷ fs) (gap_tokens i rest) (λ u. refl) (omega (arith, ok.2))
    ∙ pass_gap i parts (reopened (ended dot (meant t)) f ∷ fs) rest (omega (arith, ok.2))
pass_inside b s (vectoring r g) rest ok =
    let fs = begun_stack b in
    let f = frame in_vector s (begun_items b) (depth_of fs + 1) in
    run _ _ (row_tokens r (gap_tokens g rest)) (opens_free in_vector s [] (begun_state b) (free_of b ok.1) (omega (arith, ok.2)))
    ∙ pass_row r [] (f ∷ fs) (gap_tokens g rest) (λ t. refl) (λ d xs. refl) (omega (arith, ok.2))
    ∙ pass_gap g (row_meant r) (f ∷ fs) rest (omega (arith, ok.2))
pass_inside b s (byting r g) rest ok =
    let fs = begun_stack b in
    let f = frame (in_bytes []) s (begun_items b) (depth_of fs) in
    run _ _ (bytes_before r (gap_tokens g rest)) (allowed (refused fs s) (Ok (state [] (f ∷ fs))) (free_of b ok.1 s))
    ∙ pass_byte_row r [] f fs (gap_tokens g rest) (omega (arith, ok.2))
    ∙ pass_gap g [] (reopened (in_bytes (numerals_of r)) f ∷ fs) rest (omega (arith, ok.2))
pass_inside b s (behind_mark mark g) rest ok =
    let fs = begun_stack b in
    let m = atom (at s) (implied mark) in
    run _ _ (gap_tokens g rest) (opens_free marked s (m ∷ []) (begun_state b) (free_of b ok.1) (omega (arith, ok.2)))
    ∙ pass_gap g (m ∷ []) (frame marked s (begun_items b) (depth_of fs + 1) ∷ fs) rest (omega (arith, ok.2))
pass_inside b s (behind_skip g) rest ok =
    let fs = begun_stack b in
    run _ _ (gap_tokens g rest) (opens skipping s [] (begun_state b) (omega (arith, ok.2)))
    ∙ pass_gap g [] (frame skipping s (begun_items b) (depth_of fs + 1) ∷ fs) rest (omega (arith, ok.2))

pub pass_begun : (b : Begun) (rest : List Numbered) → Sound b → after_all (Ok (state [] [])) (begun_tokens b rest) ≡ after_all (Ok (begun_state b)) rest
pass_begun (top r g) rest ok =
    pass_row r [] [] (gap_tokens g rest) (λ t. refl) (λ d xs. refl) (omega arith) ∙ pass_gap g (row_meant r) [] rest (omega arith)
pass_begun (inside b s i) rest ok = pass_begun b (inside_tokens s i rest) ok.0 ∙ pass_inside b s i rest ok
