-- Why a token is refused, and the state that reading is in where it is.
use Rattle.std.proofs.Common.{◌≡◌, ℕ, ◌+◌, ◌==◌, length, List, [], ◌∷◌, ◌++◌, Bool, true, false, cond, nat_lt, Option, Some, None, Result, Ok, Err, MatchResult, refl, ap, subst, arith}
use Rattle.std.proofs.lemmas.Bool.Decides.{nat_tests}
use Rattle.scheme_model.specs.Kinds as kinds
use Rattle.scheme_model.specs.Kinds.{TokenKind, Leaf}
use Rattle.scheme_model.specs.Data.{Datum, atom, implied}
use Rattle.scheme_model.specs.Numbered.{Spot, at, is_byte}
use Rattle.scheme_model.specs.Faults.{Stop, bad_dot, bad_byte, too_deep}
use Rattle.scheme_model.specs.Written.{meant}
use Rattle.scheme_model.specs.Begun.{start, more, listing, behind_dot, behind_tail, vectoring, byting, behind_mark, behind_skip, Begun, top, inside, with_depth, open_depth, IsSound}
use Rattle.scheme_model.specs.Stopping.{datum_refused, unless_deep, first_of, unless_byte, refused, end_refused}
use Rattle.datum_reader.specs.Open as model
use Rattle.datum_reader.specs.Open.{Opener, in_list, in_vector, in_bytes, marked, skipping, dotted, Frame, State, state, depth_of, reopened, unless, pushed, opened, byte_added, after, finished}
use Rattle.datum_reader.proofs.Begun.{row_meant, numerals_of, begun_items, begun_stack, begun_state, Sound}

-- how many are open is what the state says
pub same_depth : (b : Begun) → depth_of (begun_stack b) ≡ open_depth b
same_depth (top r g) = refl
same_depth (inside b s i) = ap (with_depth i) (same_depth b)

pub sound_is : (b : Begun) → Sound b → IsSound b
sound_is (top r g) h = h
sound_is (inside b s i) h = (sound_is b h.0, h.1, omega (arith, h.2, ap (with_depth i) (same_depth b)))

pub is_sound : (b : Begun) → IsSound b → Sound b
is_sound (top r g) h = h
is_sound (inside b s i) h = (is_sound b h.0, h.1, omega (arith, h.2, ap (with_depth i) (same_depth b)))

-- an answer tells of a refusal
abbrev Tells : {A : Type 0} → Result A Stop → Option Stop → Type 0
Tells r o = MatchResult r (λ _. o ≡ None) (λ e. o ≡ Some e)

datum_same : (b : Begun) (t : Spot) → model.refused (begun_stack b) t ≡ datum_refused b t
datum_same (top r g) t = refl
datum_same (inside b s (listing r g)) t = refl
datum_same (inside b s (behind_dot g w ps dot h)) t = refl
datum_same (inside b s (behind_tail g w ps dot h v i)) t = refl
datum_same (inside b s (vectoring r g)) t = refl
datum_same (inside b s (byting r g)) t = refl
datum_same (inside b s (behind_mark mark g)) t = refl
datum_same (inside b s (behind_skip g)) t = refl

by_depth : (few : Bool) (p : State) (t : Spot) → Tells (cond few (Ok p) (Err (too_deep t))) (cond few None (Some (too_deep t)))
by_depth true p t = refl
by_depth false p t = refl

opened_tells : (b : Begun) (o : Opener) (t : Spot) (xs : List Datum) → Tells (opened o t xs (begun_state b)) (unless_deep (open_depth b) t)
opened_tells b o t xs =
    subst (λ (n : ℕ). Tells (opened o t xs (begun_state b)) (unless_deep n t)) (same_depth b)
    (by_depth (nat_lt (depth_of (begun_stack b)) 400) (pushed o (depth_of (begun_stack b) + 1) t xs (begun_state b)) t)

unless_tells : (o p : Option Stop) (r : Result State Stop) → Tells r p → Tells (unless o r) (first_of o p)
unless_tells None p r h = h
unless_tells (Some e) p r h = refl

begins_tells : (b : Begun) (o : Opener) (t : Spot) (xs : List Datum) → Tells (unless (model.refused (begun_stack b) t) (opened o t xs (begun_state b))) (first_of (datum_refused b t) (unless_deep (open_depth b) t))
begins_tells b o t xs =
    subst (λ (q : Option Stop). Tells (unless (model.refused (begun_stack b) t) (opened o t xs (begun_state b))) (first_of q (unless_deep (open_depth b) t))) (datum_same b t)
    (unless_tells (model.refused (begun_stack b) t) (unless_deep (open_depth b) t) (opened o t xs (begun_state b)) (opened_tells b o t xs))

alone_tells : (o : Option Stop) (p : State) → Tells (unless o (Ok p)) o
alone_tells None p = refl
alone_tells (Some e) p = refl

bytes_tells : (b : Begun) (t : Spot) → Tells (after kinds.BytesParen t (begun_state b)) (datum_refused b t)
bytes_tells b t =
    subst (λ (q : Option Stop). Tells (after kinds.BytesParen t (begun_state b)) q) (datum_same b t)
    (alone_tells (model.refused (begun_stack b) t) (pushed (in_bytes []) (depth_of (begun_stack b)) t [] (begun_state b)))

close_tells : (b : Begun) (t : Spot) → Tells (after kinds.Close t (begun_state b)) (refused b kinds.Close t)
close_tells (top r g) t = refl
close_tells (inside b s (listing r g)) t = refl
close_tells (inside b s (behind_dot g w ps dot h)) t = refl
close_tells (inside b s (behind_tail g w ps dot h v i)) t = refl
close_tells (inside b s (vectoring r g)) t = refl
close_tells (inside b s (byting r g)) t = refl
close_tells (inside b s (behind_mark mark g)) t = refl
close_tells (inside b s (behind_skip g)) t = refl

some_row : (xs : List Datum) (d : Datum) → (length (xs ++ d ∷ []) == 0) ≡ false
some_row [] d = grind (arith, nat_tests)
some_row (x ∷ xs) d = grind (arith, nat_tests)

by_part : (none : Bool) (e : Stop) (p : State) → none ≡ false → Tells (cond none (Err e) (Ok p)) None
by_part true e p h = let never : ⊥ = cc in absurd never
by_part false e p h = refl

dot_tells : (b : Begun) (t : Spot) → Tells (after kinds.Dot t (begun_state b)) (refused b kinds.Dot t)
dot_tells (top r g) t = refl
dot_tells (inside b s (listing start g)) t = refl
dot_tells (inside b s (listing (more r h w) g)) t =
    let f : Frame = record { opener = in_list; spot = s; before = begun_items b; depth = depth_of (begun_stack b) + 1 } in
    by_part (length (row_meant r ++ meant w ∷ []) == 0) (bad_dot t) (state (row_meant r ++ meant w ∷ []) (reopened (dotted t) f ∷ begun_stack b)) (some_row (row_meant r) (meant w))
dot_tells (inside b s (behind_dot g w ps dot h)) t = refl
dot_tells (inside b s (behind_tail g w ps dot h v i)) t = refl
dot_tells (inside b s (vectoring r g)) t = refl
dot_tells (inside b s (byting r g)) t = refl
dot_tells (inside b s (behind_mark mark g)) t = refl
dot_tells (inside b s (behind_skip g)) t = refl

by_byte : (fits : Bool) (text : List ℕ) (bs : List (List ℕ)) (t : Spot) (f : Frame) (fs : List Frame) → Tells (byte_added (cond fits (Some text) None) bs t f [] fs) (cond fits None (Some (bad_byte t)))
by_byte true text bs t f fs = refl
by_byte false text bs t f fs = refl

byte_tells : (leaf : Leaf) (bs : List (List ℕ)) (t : Spot) (f : Frame) (fs : List Frame) → Tells (byte_added (model.byte_of leaf) bs t f [] fs) (unless_byte leaf t)
byte_tells (kinds.Name name bars) bs t f fs = refl
byte_tells (kinds.Numeral text) bs t f fs = by_byte (is_byte 0 text) text bs t f fs
byte_tells (kinds.Quoted text) bs t f fs = refl
byte_tells (kinds.Character c) bs t f fs = refl
byte_tells (kinds.Truth v) bs t f fs = refl

atom_tells : (leaf : Leaf) (b : Begun) (t : Spot) → Tells (after (kinds.Atomic leaf) t (begun_state b)) (refused b (kinds.Atomic leaf) t)
atom_tells leaf (top r g) t = refl
atom_tells leaf (inside b s (listing r g)) t = refl
atom_tells leaf (inside b s (behind_dot g w ps dot h)) t = refl
atom_tells leaf (inside b s (behind_tail g w ps dot h v i)) t = refl
atom_tells leaf (inside b s (vectoring r g)) t = refl
atom_tells leaf (inside b s (byting r g)) t =
    byte_tells leaf (numerals_of r) t (record { opener = in_bytes (numerals_of r); spot = s; before = begun_items b; depth = depth_of (begun_stack b) }) (begun_stack b)
atom_tells leaf (inside b s (behind_mark mark g)) t = refl
atom_tells leaf (inside b s (behind_skip g)) t = refl

tells : (k : TokenKind) (b : Begun) (t : Spot) → Tells (after k t (begun_state b)) (refused b k t)
tells kinds.Paren b t = begins_tells b in_list t []
tells kinds.VectorParen b t = begins_tells b in_vector t []
tells kinds.BytesParen b t = bytes_tells b t
tells kinds.Close b t = close_tells b t
tells kinds.Dot b t = dot_tells b t
tells kinds.Skip b t = opened_tells b skipping t []
tells (kinds.Marked mark) b t = begins_tells b marked t (atom (at t) (implied mark) ∷ [])
tells (kinds.Atomic leaf) b t = atom_tells leaf b t

from_told : {A : Type 0} (e : Stop) (o : Option Stop) (r : Result A Stop) → Tells r o → o ≡ Some e → r ≡ Err e
from_told e o (Ok s) h k = let never : ⊥ = cc in absurd never
from_told e o (Err f) h k = let same : f ≡ e = cc in ap (λ (q : Stop). Err q) same

-- a token is refused exactly where reading can't go on with it, and for the same reason
pub refused_of : (b : Begun) (k : TokenKind) (t : Spot) (e : Stop) → after k t (begun_state b) ≡ Err e → refused b k t ≡ Some e
refused_of b k t e h = subst (λ (r : Result State Stop). Tells r (refused b k t)) h (tells k b t)

pub refuses : (b : Begun) (k : TokenKind) (t : Spot) (e : Stop) → refused b k t ≡ Some e → after k t (begun_state b) ≡ Err e
refuses b k t e h = from_told e (refused b k t) (after k t (begun_state b)) (tells k b t) h

ends_tell : (b : Begun) → Tells (finished (begun_items b) (begun_stack b)) (end_refused b)
ends_tell (top r g) = refl
ends_tell (inside b s (listing r g)) = refl
ends_tell (inside b s (behind_dot g w ps dot h)) = refl
ends_tell (inside b s (behind_tail g w ps dot h v i)) = refl
ends_tell (inside b s (vectoring r g)) = refl
ends_tell (inside b s (byting r g)) = refl
ends_tell (inside b s (behind_mark mark g)) = refl
ends_tell (inside b s (behind_skip g)) = refl

pub end_refused_of : (b : Begun) (e : Stop) → finished (begun_items b) (begun_stack b) ≡ Err e → end_refused b ≡ Some e
end_refused_of b e h = subst (λ (r : Result (List Datum) Stop). Tells r (end_refused b)) h (ends_tell b)

pub end_refuses : (b : Begun) (e : Stop) → end_refused b ≡ Some e → finished (begun_items b) (begun_stack b) ≡ Err e
end_refuses b e h = from_told e (end_refused b) (finished (begun_items b) (begun_stack b)) (ends_tell b) h
