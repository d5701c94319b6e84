-- Calls that are made one after another.
use Rattle.std.proofs.Common.{◌≡◌, ◌≢◌, ℕ, ◌<◌, ◌≤◌, List, [], ◌∷◌, ◌++◌, length, length-append, take, refl, sym, ap, ◌∙◌, append_assoc, append-nil, arith}
use Rattle.std.proofs.lemmas.List.{length-take}
use Rattle.std.specs.List.{AllByRecursion}
use Rattle.ls_outside.specs.Calls.{AllTake, CallsTake, LastTakes, LastTakesNone}
use Rattle.ls_outside.specs.Sources.{bytes_of}

pub bytes_more : (a b : List (List ℕ)) → bytes_of (a ++ b) ≡ bytes_of a ++ bytes_of b
bytes_more [] b = refl
bytes_more (piece ∷ a) b = ap (λ (rest : List ℕ). piece ++ rest) (bytes_more a b) ∙ sym (append_assoc piece (bytes_of a) (bytes_of b))

all_both : (x y : List (List ℕ)) → AllByRecursion (λ piece. 0 < length piece) x → AllByRecursion (λ piece. 0 < length piece) y → AllByRecursion (λ piece. 0 < length piece) (x ++ y)
all_both [] y first second = second
all_both (piece ∷ x) y first second = (first.0, all_both x y first.1 second)

-- ---- calls

-- calls after calls
abbrev pub calls_then : (a b c : List (List ℕ)) (x y : List ℕ) → CallsTake a b x → CallsTake b c y → CallsTake a c (x ++ y)
calls_then a b c x y first second = record {
  calls = first.calls ++ second.calls;
  more = second.more ∙ ap (λ (l : List (List ℕ)). l ++ second.calls) first.more ∙ append_assoc a first.calls second.calls;
  whole = (λ j. first.whole j ++ second.whole j) ∙ sym (bytes_more first.calls second.calls);
}

-- one call
abbrev call_one : (a b : List (List ℕ)) (piece : List ℕ) → b ≡ a ++ piece ∷ [] → CallsTake a b piece
call_one a b piece noted = record { calls = piece ∷ []; more = noted; whole = sym (append-nil piece) }

-- ---- calls of which each takes some bytes

-- no call
pub take_none : (a : List (List ℕ)) → AllTake a a []
take_none a = record { take = record { calls = []; more = sym (append-nil a); whole = refl }; some = tt }

pub take_then : (a b c : List (List ℕ)) (x y : List ℕ) → AllTake a b x → AllTake b c y → AllTake a c (x ++ y)
take_then a b c x y first second = record {
  take = calls_then a b c x y first.take second.take;
  some = all_both first.take.calls second.take.calls first.some second.some;
}

-- one call that takes the first n bytes of some
pub take_one : (a b : List (List ℕ)) (bytes : List ℕ) (n : ℕ) → b ≡ a ++ take n bytes ∷ [] → 1 ≤ n → n ≤ length bytes → AllTake a b (take n bytes)
take_one a b bytes n noted some within = record { take = call_one a b (take n bytes) noted; some = (let l = length-take n bytes in omega arith, tt) }

-- one call that takes some bytes
pub take_all_of : (a b : List (List ℕ)) (bytes : List ℕ) → b ≡ a ++ bytes ∷ [] → 0 < length bytes → AllTake a b bytes
take_all_of a b bytes noted some = record { take = call_one a b bytes noted; some = (some, tt) }

-- no bytes, and no call
pub take_no : (a : List (List ℕ)) (bytes : List ℕ) → length bytes ≡ 0 → AllTake a a bytes
take_no a [] none = take_none a
take_no a (byte ∷ bytes) none = absurd (omega (arith, none))

-- ---- a last call

pub last_then : (a b c : List (List ℕ)) (x y last : List ℕ) → AllTake a b x → LastTakes b c y last → LastTakes a c (x ++ y) last
last_then a b c x y last first second = record { mid = second.mid; earlier = take_then a b second.mid x y first second.earlier; call = second.call }

-- a call behind others
pub last_after : (a b c : List (List ℕ)) (x last : List ℕ) → AllTake a b x → c ≡ b ++ last ∷ [] → LastTakes a c x last
last_after a b c x last first noted = record { mid = b; earlier = first; call = noted }

-- what all calls took, the last with them
pub last_all : (a b : List (List ℕ)) (x last : List ℕ) → LastTakes a b x last → CallsTake a b (x ++ last)
last_all a b x last l = calls_then a l.mid b x last l.earlier.take (call_one l.mid b last l.call)

pub last_none_all : (a b : List (List ℕ)) (x : List ℕ) → LastTakesNone a b x → CallsTake a b x
last_none_all a b x l = let all = last_all a b x [] l in record { calls = all.calls; more = all.more; whole = sym (append-nil x) ∙ all.whole }

-- where there was a last call, calls were made
pub last_is_made : (a b : List (List ℕ)) (x last : List ℕ) → LastTakes a b x last → b ≢ a
last_is_made a b x last l same =
    let more = ap length l.earlier.take.more ∙ length-append a l.earlier.take.calls in
    let one = ap length l.call ∙ length-append l.mid (last ∷ []) in
    absurd (omega (arith, more, one, ap length same))

-- the only call took nothing
pub took_none : (a b : List (List ℕ)) → b ≡ a ++ [] ∷ [] → LastTakesNone a b []
took_none a b noted = last_after a a b [] [] (take_none a) noted
