-- Data that are partly written: what they mean, and the state that reading them is in.
use Rattle.std.proofs.Common.{ℕ, ◌+◌, ◌≤◌, max, List, [], ◌∷◌, ◌++◌}
use Rattle.scheme_model.specs.Data.{Datum, atom, implied}
use Rattle.scheme_model.specs.Numbered.{Spot, at}
use Rattle.scheme_model.specs.Written.{Written, abbreviated, Gap, nothing, skipped, Parts, next, Bytes, byte, meant, parts_meant, gap_depth}
use Rattle.scheme_model.specs.Begun.{Row, start, more, ByteRow, no_bytes, one_byte, Inside, listing, behind_dot, behind_tail, vectoring, byting, behind_mark, behind_skip, Begun, top, inside, Stays, with_depth, row_depth, inside_depth}
use Rattle.datum_reader.specs.Open.{Opener, in_list, dotted, ended, in_vector, in_bytes, marked, skipping, Frame, State, state, depth_of}

-- ---- the data that are meant

abbrev pub row_meant : Row → List Datum
row_meant start = []
row_meant (more r g w) = row_meant r ++ meant w ∷ []

abbrev pub numerals_of : ByteRow → List (List ℕ)
numerals_of no_bytes = []
numerals_of (one_byte r g s text fits) = numerals_of r ++ text ∷ []

abbrev pub inside_items : Spot → Inside → List Datum
inside_items s (listing r g) = row_meant r
inside_items s (behind_dot g w ps dot h) = meant w ∷ parts_meant ps
inside_items s (behind_tail g w ps dot h t i) = meant w ∷ parts_meant ps
inside_items s (vectoring r g) = row_meant r
inside_items s (byting r g) = []
inside_items s (behind_mark mark g) = atom (at s) (implied mark) ∷ []
inside_items s (behind_skip g) = []

abbrev pub begun_items : Begun → List Datum
begun_items (top r g) = row_meant r
begun_items (inside b s i) = inside_items s i

-- ---- the state that reading is in

abbrev pub opener_in : Inside → Opener
opener_in (listing r g) = in_list
opener_in (behind_dot g w ps dot h) = dotted dot
opener_in (behind_tail g w ps dot h t i) = ended dot (meant t)
opener_in (vectoring r g) = in_vector
opener_in (byting r g) = in_bytes (numerals_of r)
opener_in (behind_mark mark g) = marked
opener_in (behind_skip g) = skipping

abbrev pub begun_stack : Begun → List Frame
begun_stack (top r g) = []
begun_stack (inside b s i) = record { opener = opener_in i; spot = s; before = begun_items b; depth = with_depth i (depth_of (begun_stack b)) } ∷ begun_stack b

abbrev pub begun_state : Begun → State
begun_state b = state (begun_items b) (begun_stack b)

-- ---- which are sound

-- at most 400 are open, and what is open may be
abbrev pub Sound : Begun → Type 0
Sound (top r g) = max (row_depth r) (gap_depth g) ≤ 400
Sound (inside b s i) = Sound b × Stays i b × (with_depth i (depth_of (begun_stack b)) + inside_depth i ≤ 400)

-- ---- what comes next

-- a gap with one thing more skipped
abbrev pub gap_more : Gap → Spot → Gap → Written → Gap
gap_more nothing s g w = skipped s g w nothing
gap_more (skipped t h v i) s g w = skipped t h v (gap_more i s g w)

abbrev pub skip_in : Inside → Spot → Gap → Written → Inside
skip_in (listing r h) s g w = listing r (gap_more h s g w)
skip_in (behind_dot k v ps dot h) s g w = behind_dot k v ps dot (gap_more h s g w)
skip_in (behind_tail k v ps dot j t h) s g w = behind_tail k v ps dot j t (gap_more h s g w)
skip_in (vectoring r h) s g w = vectoring r (gap_more h s g w)
skip_in (byting r h) s g w = byting r (gap_more h s g w)
skip_in (behind_mark mark h) s g w = behind_mark mark (gap_more h s g w)
skip_in (behind_skip h) s g w = behind_skip (gap_more h s g w)

abbrev pub skip_more : Begun → Spot → Gap → Written → Begun
skip_more (top r h) s g w = top r (gap_more h s g w)
skip_more (inside b t i) s g w = inside b t (skip_in i s g w)

-- a datum is complete where one may begin
abbrev pub complete : Begun → Written → Begun
complete (top r g) w = top (more r g w) nothing
complete (inside b s (listing r g)) w = inside b s (listing (more r g w) nothing)
complete (inside b s (behind_dot g v ps dot h)) w = inside b s (behind_tail g v ps dot h w nothing)
complete (inside b s (behind_tail g v ps dot h t i)) w = inside b s (behind_tail g v ps dot h t i)
complete (inside b s (vectoring r g)) w = inside b s (vectoring (more r g w) nothing)
complete (inside b s (byting r g)) w = inside b s (byting r g)
complete (inside b s (behind_mark mark g)) w = complete b (abbreviated s mark g w)
complete (inside b s (behind_skip g)) w = skip_more b s g w

-- a row before more parts
abbrev pub parts_from : Row → Parts → Parts
parts_from start ps = ps
parts_from (more r g w) ps = parts_from r (next g w ps)

abbrev pub bytes_from : ByteRow → Bytes → Bytes
bytes_from no_bytes bs = bs
bytes_from (one_byte r g s text fits) bs = bytes_from r (byte g s text fits bs)
