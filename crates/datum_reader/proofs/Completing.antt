-- A datum that is complete, among data that are partly written.
use Rattle.std.proofs.Common.{◌≡◌, ◌+◌, ◌≤◌, max, List, [], ◌∷◌, ◌++◌, refl, sym, ap, ◌∙◌, arith, append_assoc}
use Rattle.scheme_model.specs.Kinds as kinds
use Rattle.scheme_model.specs.Numbered.{Spot, Numbered}
use Rattle.datum_reader.specs.Open.{completed, depth_of}
use Rattle.scheme_model.specs.Written.{Written, abbreviated, Gap, nothing, skipped, Parts, next, Bytes, byte, token, written_tokens, gap_tokens, parts_tokens, bytes_tokens, meant, parts_meant, bytes_meant, depth, gap_depth, parts_depth, bytes_depth}
use Rattle.scheme_model.specs.Begun.{Row, start, more, ByteRow, no_bytes, one_byte, Inside, listing, behind_dot, behind_tail, vectoring, byting, behind_mark, behind_skip, Begun, top, inside, row_tokens, bytes_before, begun_tokens, Takes, row_depth, byte_row_depth}
use Rattle.datum_reader.proofs.Begun.{row_meant, numerals_of, inside_items, begun_items, begun_stack, begun_state, Sound, gap_more, skip_in, skip_more, complete, parts_from, bytes_from}

-- ---- gaps

gap_more-tokens : (h : Gap) (s : Spot) (g : Gap) (w : Written) (rest : List Numbered) → gap_tokens (gap_more h s g w) rest ≡ gap_tokens h (token s kinds.Skip ∷ gap_tokens g (written_tokens w rest))
gap_more-tokens nothing s g w rest = refl
gap_more-tokens (skipped t k v i) s g w rest = ap (λ (q : List Numbered). token t kinds.Skip ∷ gap_tokens k (written_tokens v q)) (gap_more-tokens i s g w rest)

gap_more-depth : (h : Gap) (s : Spot) (g : Gap) (w : Written) → gap_depth (gap_more h s g w) ≡ max (gap_depth h) (max (gap_depth g) (depth w) + 1)
gap_more-depth nothing s g w = omega arith
gap_more-depth (skipped t k v i) s g w = omega (arith, gap_more-depth i s g w)

-- ---- rows

pub parts_from-tokens : (r : Row) (ps : Parts) (rest : List Numbered) → parts_tokens (parts_from r ps) rest ≡ row_tokens r (parts_tokens ps rest)
parts_from-tokens start ps rest = refl
parts_from-tokens (more r g w) ps rest = parts_from-tokens r (next g w ps) rest

pub parts_from-meant : (r : Row) (ps : Parts) → parts_meant (parts_from r ps) ≡ row_meant r ++ parts_meant ps
parts_from-meant start ps = refl
parts_from-meant (more r g w) ps = parts_from-meant r (next g w ps) ∙ sym (append_assoc (row_meant r) (meant w ∷ []) (parts_meant ps))

pub parts_from-depth : (r : Row) (ps : Parts) → parts_depth (parts_from r ps) ≡ max (row_depth r) (parts_depth ps)
parts_from-depth start ps = omega arith
parts_from-depth (more r g w) ps = omega (arith, parts_from-depth r (next g w ps))

pub bytes_from-tokens : (r : ByteRow) (bs : Bytes) (rest : List Numbered) → bytes_tokens (bytes_from r bs) rest ≡ bytes_before r (bytes_tokens bs rest)
bytes_from-tokens no_bytes bs rest = refl
bytes_from-tokens (one_byte r g s text fits) bs rest = bytes_from-tokens r (byte g s text fits bs) rest

pub bytes_from-meant : (r : ByteRow) (bs : Bytes) → bytes_meant (bytes_from r bs) ≡ numerals_of r ++ bytes_meant bs
bytes_from-meant no_bytes bs = refl
bytes_from-meant (one_byte r g s text fits) bs = bytes_from-meant r (byte g s text fits bs) ∙ sym (append_assoc (numerals_of r) (text ∷ []) (bytes_meant bs))

pub bytes_from-depth : (r : ByteRow) (bs : Bytes) → bytes_depth (bytes_from r bs) ≡ max (byte_row_depth r) (bytes_depth bs)
bytes_from-depth no_bytes bs = omega arith
bytes_from-depth (one_byte r g s text fits) bs = omega (arith, bytes_from-depth r (byte g s text fits bs))

-- ---- something is skipped

skip_in-items : (t : Spot) (i : Inside) (s : Spot) (g : Gap) (w : Written) → inside_items t (skip_in i s g w) ≡ inside_items t i
skip_in-items t (listing r h) s g w = refl
skip_in-items t (behind_dot k v ps dot h) s g w = refl
skip_in-items t (behind_tail k v ps dot j u h) s g w = refl
skip_in-items t (vectoring r h) s g w = refl
skip_in-items t (byting r h) s g w = refl
skip_in-items t (behind_mark mark h) s g w = refl
skip_in-items t (behind_skip h) s g w = refl

pub skip_more-state : (b : Begun) (s : Spot) (g : Gap) (w : Written) → begun_state (skip_more b s g w) ≡ begun_state b
skip_more-state (top r h) s g w = refl
skip_more-state (inside b t (listing r h)) s g w = refl
skip_more-state (inside b t (behind_dot k v ps dot h)) s g w = refl
skip_more-state (inside b t (behind_tail k v ps dot j u h)) s g w = refl
skip_more-state (inside b t (vectoring r h)) s g w = refl
skip_more-state (inside b t (byting r h)) s g w = refl
skip_more-state (inside b t (behind_mark mark h)) s g w = refl
skip_more-state (inside b t (behind_skip h)) s g w = refl

pub skip_more-tokens : (b : Begun) (s : Spot) (g : Gap) (w : Written) (rest : List Numbered) →
    begun_tokens (skip_more b s g w) rest ≡ begun_tokens b (token s kinds.Skip ∷ gap_tokens g (written_tokens w rest))
skip_more-tokens (top r h) s g w rest = ap (row_tokens r) (gap_more-tokens h s g w rest)
skip_more-tokens (inside b t (listing r h)) s g w rest = ap (λ (q : List Numbered). begun_tokens b (token t kinds.Paren ∷ row_tokens r q)) (gap_more-tokens h s g w rest)
skip_more-tokens (inside b t (behind_dot k v ps dot h)) s g w rest =
    ap (λ (q : List Numbered). begun_tokens b (token t kinds.Paren ∷ gap_tokens k (written_tokens v (parts_tokens ps (token dot kinds.Dot ∷ q))))) (gap_more-tokens h s g w rest)
skip_more-tokens (inside b t (behind_tail k v ps dot j u h)) s g w rest =
    ap (λ (q : List Numbered). begun_tokens b (token t kinds.Paren ∷ gap_tokens k (written_tokens v (parts_tokens ps (token dot kinds.Dot ∷ gap_tokens j (written_tokens u q))))))
    (gap_more-tokens h s g w rest)
skip_more-tokens (inside b t (vectoring r h)) s g w rest = ap (λ (q : List Numbered). begun_tokens b (token t kinds.VectorParen ∷ row_tokens r q)) (gap_more-tokens h s g w rest)
skip_more-tokens (inside b t (byting r h)) s g w rest = ap (λ (q : List Numbered). begun_tokens b (token t kinds.BytesParen ∷ bytes_before r q)) (gap_more-tokens h s g w rest)
skip_more-tokens (inside b t (behind_mark mark h)) s g w rest = ap (λ (q : List Numbered). begun_tokens b (token t (kinds.Marked mark) ∷ q)) (gap_more-tokens h s g w rest)
skip_more-tokens (inside b t (behind_skip h)) s g w rest = ap (λ (q : List Numbered). begun_tokens b (token t kinds.Skip ∷ q)) (gap_more-tokens h s g w rest)

pub skip_more-sound : (b : Begun) (s : Spot) (g : Gap) (w : Written) → Sound b → depth_of (begun_stack b) + (max (gap_depth g) (depth w) + 1) ≤ 400 → Sound (skip_more b s g w)
skip_more-sound (top r h) s g w ok lt = omega (arith, gap_more-depth h s g w)
skip_more-sound (inside b t (listing r h)) s g w ok lt = (ok.0, ok.1, omega (arith, gap_more-depth h s g w, ok.2))
skip_more-sound (inside b t (behind_dot k v ps dot h)) s g w ok lt = (ok.0, ok.1, omega (arith, gap_more-depth h s g w, ok.2))
skip_more-sound (inside b t (behind_tail k v ps dot j u h)) s g w ok lt = (ok.0, ok.1, omega (arith, gap_more-depth h s g w, ok.2))
skip_more-sound (inside b t (vectoring r h)) s g w ok lt = (ok.0, ok.1, omega (arith, gap_more-depth h s g w, ok.2))
skip_more-sound (inside b t (byting r h)) s g w ok lt = (ok.0, ok.1, omega (arith, gap_more-depth h s g w, ok.2))
skip_more-sound (inside b t (behind_mark mark h)) s g w ok lt = (ok.0, ok.1, omega (arith, gap_more-depth h s g w, ok.2))
skip_more-sound (inside b t (behind_skip h)) s g w ok lt = (ok.0, ok.1, omega (arith, gap_more-depth h s g w, ok.2))

-- ---- a datum is complete

pub complete-state : (b : Begun) (w : Written) → Sound b → Takes b → begun_state (complete b w) ≡ completed (meant w) (begun_items b) (begun_stack b)
complete-state (top r g) w ok takes = refl
complete-state (inside b s (listing r g)) w ok takes = refl
complete-state (inside b s (behind_dot g v ps dot h)) w ok takes = refl
complete-state (inside b s (behind_tail g v ps dot h t i)) w ok takes = absurd takes
complete-state (inside b s (vectoring r g)) w ok takes = refl
complete-state (inside b s (byting r g)) w ok takes = absurd takes
complete-state (inside b s (behind_mark mark g)) w ok takes = complete-state b (abbreviated s mark g w) ok.0 ok.1
complete-state (inside b s (behind_skip g)) w ok takes = skip_more-state b s g w

pub complete-tokens : (b : Begun) (w : Written) (rest : List Numbered) → Sound b → Takes b → begun_tokens (complete b w) rest ≡ begun_tokens b (written_tokens w rest)
complete-tokens (top r g) w rest ok takes = refl
complete-tokens (inside b s (listing r g)) w rest ok takes = refl
complete-tokens (inside b s (behind_dot g v ps dot h)) w rest ok takes = refl
complete-tokens (inside b s (behind_tail g v ps dot h t i)) w rest ok takes = absurd takes
complete-tokens (inside b s (vectoring r g)) w rest ok takes = refl
complete-tokens (inside b s (byting r g)) w rest ok takes = absurd takes
complete-tokens (inside b s (behind_mark mark g)) w rest ok takes = complete-tokens b (abbreviated s mark g w) rest ok.0 ok.1
complete-tokens (inside b s (behind_skip g)) w rest ok takes = skip_more-tokens b s g w rest

pub complete-sound : (b : Begun) (w : Written) → Sound b → Takes b → depth_of (begun_stack b) + depth w ≤ 400 → Sound (complete b w)
complete-sound (top r g) w ok takes lt = omega arith
complete-sound (inside b s (listing r g)) w ok takes lt = (ok.0, ok.1, omega (arith, ok.2))
complete-sound (inside b s (behind_dot g v ps dot h)) w ok takes lt = (ok.0, ok.1, omega (arith, ok.2))
complete-sound (inside b s (behind_tail g v ps dot h t i)) w ok takes lt = absurd takes
complete-sound (inside b s (vectoring r g)) w ok takes lt = (ok.0, ok.1, omega (arith, ok.2))
complete-sound (inside b s (byting r g)) w ok takes lt = absurd takes
complete-sound (inside b s (behind_mark mark g)) w ok takes lt = complete-sound b (abbreviated s mark g w) ok.0 ok.1 (omega (arith, ok.2))
complete-sound (inside b s (behind_skip g)) w ok takes lt = skip_more-sound b s g w ok.0 (omega (arith, ok.2))
