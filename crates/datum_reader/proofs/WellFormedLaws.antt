-- What is read from a text of at most 1,048,576 bytes is what a tree can be made of.
use Rattle.std.proofs.Common.{◌≡◌, ℕ, ◌+◌, ◌*◌, ◌≤◌, length, List, ◌∷◌, refl, sym, ap, subst, arith, inl, inr}
use Rattle.datum_reader.proofs.TokensSeen.{few_seen}
use Rattle.scheme_tokens.specs.Lexical.{byte_count}
use Rattle.scheme_model.specs.Data.{Place, Atom, spelled, implied, Datum, atom, list, vector, bytes, Data, none, part, row, tail_of, place_of}
use Rattle.scheme_model.specs.Numbered.{at, between, up_to}
use Rattle.scheme_model.specs.Written.{Written, alone, listed, tailed, vectored, byted, abbreviated, Parts, last, next, bytes_meant, meant, parts_meant, parts_depth}
use Rattle.datum_reader.specs.WellFormed.{IsIn, IsAmong, WasRead, IsWellFormed, AreWellFormed, CanSeed}
use Rattle.datum_reader.proofs.Measured.{datum_size, data_size, datum_depth, data_depth, vector-size, vector-depth, seedable}
use Rattle.datum_reader.proofs.Sizes.{all_size}
use Rattle.datum_reader.proofs.Depths.{all_depth}

-- what is meant is right
tail_right : (d : Datum) → IsWellFormed d → AreWellFormed (tail_of d)
tail_right (atom p k) h = (refl, h)
tail_right (list p ds) h = h
tail_right (vector p ds) h = (refl, h)
tail_right (bytes p texts) h = (refl, h)

mutual
  written_right : (w : Written) → IsWellFormed (meant w)
  written_right (alone s leaf) = tt
  written_right (listed a ps b) = parts_right ps none tt
  written_right (tailed a g w ps dot h t i b) = (written_right w, parts_right ps (tail_of (meant t)) (tail_right (meant t) (written_right t)))
  written_right (vectored a ps b) = parts_right ps none tt
  written_right (byted a bs b) = tt
  written_right (abbreviated s mark g w) = (tt, (written_right w, tt))

  parts_right : (ps : Parts) (end : Data) → AreWellFormed end → AreWellFormed (row (parts_meant ps) end)
  parts_right (last g) end h = h
  parts_right (next g w ps) end h = (written_right w, parts_right ps end h)

-- a datum is right, and its tree is at most so large and so deep
record Fits (d : Datum) (size deep : ℕ) : Type 0 where
  right : IsWellFormed d
  small : datum_size d ≤ size
  shallow : datum_depth d ≤ deep

looser : (d : Datum) (a b m n : ℕ) → a ≤ b → m ≤ n → Fits d a m → Fits d b n
looser d a b m n h k f = record { right = f.right; small = omega (arith, h, f.small); shallow = omega (arith, k, f.shallow) }

itself : (d e : Datum) → d ≡ e → IsWellFormed e → Fits d (datum_size e) (datum_depth e)
itself d e h r = record { right = subst IsWellFormed (sym h) r; small = omega (arith, ap datum_size h); shallow = omega (arith, ap datum_depth h) }

-- what stands in a datum, or in what it adds as a tail, fits as the whole does
record AllFit (e : Datum) : Type 0 where
  parts : (d : Datum) → IsIn d e → Fits d (datum_size e) (datum_depth e)
  ending : (d : Datum) → IsAmong d (tail_of e) → Fits d (data_size (tail_of e)) (data_depth (tail_of e))

in_atom : (p : Place) (a : Atom) → AllFit (atom p a)
in_atom p a = record {
  parts = λ d h. itself d (atom p a) h tt;
  ending = λ d h. looser d _ _ _ _ (omega arith) (omega arith) (itself d (atom p a) h tt);
}

in_bytes : (p : Place) (texts : List (List ℕ)) → AllFit (bytes p texts)
in_bytes p texts = record {
  parts = λ d h. itself d (bytes p texts) h tt;
  ending = λ d h. looser d _ _ _ _ (omega arith) (omega arith) (itself d (bytes p texts) h tt);
}

list_fits : (p : Place) (ds : Data) → AreWellFormed ds → ((d : Datum) → IsAmong d ds → Fits d (data_size ds) (data_depth ds)) → (d : Datum) → IsIn d (list p ds) → Fits d (datum_size (list p ds)) (datum_depth (list p ds))
list_fits p ds r f d (inl h) = itself d (list p ds) h r
list_fits p ds r f d (inr h) = looser d _ _ _ _ (omega arith) (omega arith) (f d h)

in_list : (p : Place) (ds : Data) → AreWellFormed ds → ((d : Datum) → IsAmong d ds → Fits d (data_size ds) (data_depth ds)) → AllFit (list p ds)
in_list p ds r f = record { parts = list_fits p ds r f; ending = f }

vector_fits : (p : Place) (ds : List Datum) → AreWellFormed (row ds none) → ((d : Datum) → IsAmong d (row ds none) → Fits d (data_size (row ds none)) (data_depth (row ds none))) → (d : Datum) →
    IsIn d (vector p (row ds none)) → Fits d (datum_size (vector p (row ds none))) (datum_depth (vector p (row ds none)))
vector_fits p ds r f d (inl h) = itself d (vector p (row ds none)) h r
vector_fits p ds r f d (inr h) = looser d _ _ _ _ (omega (arith, vector-size p ds)) (omega (arith, vector-depth p ds)) (f d h)

in_vector : (p : Place) (ds : List Datum) → AreWellFormed (row ds none) → ((d : Datum) → IsAmong d (row ds none) → Fits d (data_size (row ds none)) (data_depth (row ds none))) → AllFit (vector p (row ds none))
in_vector p ds r f = record {
  parts = vector_fits p ds r f;
  ending = λ d h. looser d _ _ _ _ (omega arith) (omega arith) (vector_fits p ds r f d h);
}

part_fits : (e : Datum) (ds : Data) → ((d : Datum) → IsIn d e → Fits d (datum_size e) (datum_depth e)) → ((d : Datum) → IsAmong d ds → Fits d (data_size ds) (data_depth ds)) → (d : Datum) →
    IsAmong d (part e ds) → Fits d (data_size (part e ds)) (data_depth (part e ds))
part_fits e ds f g d (inl h) = looser d _ _ _ _ (omega arith) (omega arith) (f d h)
part_fits e ds f g d (inr h) = looser d _ _ _ _ (omega arith) (omega arith) (g d h)

mutual
  in_meant : (w : Written) → AllFit (meant w)
  in_meant (alone s leaf) = in_atom (at s) (spelled leaf)
  in_meant (listed a ps b) = in_list (between a b) (row (parts_meant ps) none) (parts_right ps none tt) (among_meant ps none (λ d h. absurd h))
  in_meant (tailed a g w ps dot h t i b) =
      let rest = tail_of (meant t) in
      in_list (between a b) (row (meant w ∷ parts_meant ps) rest) (written_right (tailed a g w ps dot h t i b))
      (part_fits (meant w) (row (parts_meant ps) rest) (in_meant w).parts (among_meant ps rest (in_meant t).ending))
  in_meant (vectored a ps b) = in_vector (between a b) (parts_meant ps) (parts_right ps none tt) (among_meant ps none (λ d h. absurd h))
  in_meant (byted a bs b) = in_bytes (between a b) (bytes_meant bs)
  in_meant (abbreviated s mark g w) =
      in_list (up_to s (place_of (meant w))) (part (atom (at s) (implied mark)) (part (meant w) none)) (written_right (abbreviated s mark g w))
      (part_fits (atom (at s) (implied mark)) (part (meant w) none) (in_atom (at s) (implied mark)).parts (part_fits (meant w) none (in_meant w).parts (λ d h. absurd h)))

  among_meant : (ps : Parts) (end : Data) → ((d : Datum) → IsAmong d end → Fits d (data_size end) (data_depth end)) → (d : Datum) → IsAmong d (row (parts_meant ps) end) →
      Fits d (data_size (row (parts_meant ps) end)) (data_depth (row (parts_meant ps) end))
  among_meant (last g) end f = f
  among_meant (next g w ps) end f = part_fits (meant w) (row (parts_meant ps) end) (in_meant w).parts (among_meant ps end f)

-- with numerals for the limits
small_enough : (size all tokens count : ℕ) → size ≤ all → all ≤ 2 * tokens → tokens ≤ count → count ≤ 1048576 → size ≤ 4194304
small_enough size all tokens count h k l m = omega arith

shallow_enough : (deep all open_depth : ℕ) → deep ≤ all → all ≤ open_depth + 1 → open_depth ≤ 400 → deep ≤ 1000
shallow_enough deep all open_depth h k l = omega arith

pub can_seed : (d : Datum) → WasRead d → CanSeed d
can_seed d w =
    let ps = w.reading.written in
    let ds = row (parts_meant ps) none in
    let among : IsAmong d ds = subst (λ (q : List Datum). IsAmong d (row q none)) w.reading.means w.among in
    let fits = among_meant ps none (λ e h. absurd h) d among in
    seedable d fits.right
    (small_enough (datum_size d) (data_size ds) (length w.reading.tokens) (byte_count w.text) fits.small (all_size ps w.reading.tokens w.reading.formed)
    (few_seen w.text w.reading.tokens w.reading.spelled) w.fits)
    (shallow_enough (datum_depth d) (data_depth ds) (parts_depth ps) fits.shallow (all_depth ps) w.reading.shallow)
