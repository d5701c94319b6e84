-- The parts of what was read stand one behind the other, and of two neighbours one at most is implied by a mark.
use Rattle.std.proofs.Common.{◌≡◌, ℕ, suc, ◌≤◌, List, [], ◌∷◌, sym, ap, subst, arith, inl, inr}
use Rattle.scheme_model.specs.Kinds.{Token}
use Rattle.scheme_model.specs.Kinds as kinds
use Rattle.scheme_model.specs.Data.{spelled, implied, Datum, atom, list, vector, bytes, Data, none, part, tail, row, tail_of, place_of}
use Rattle.scheme_model.specs.Numbered.{Numbered, number_from}
use Rattle.scheme_model.specs.Written.{Written, alone, listed, tailed, vectored, byted, abbreviated, Gap, nothing, skipped, Parts, last, next, Bytes, last_byte, byte, token, written_tokens, gap_tokens, parts_tokens, bytes_tokens, meant, parts_meant}
use Rattle.datum_reader.specs.WellFormed.{IsIn, IsAmong, WasRead}

-- ---- tokens by their numbers

-- these are some tokens from a number on
record From (k : ℕ) (xs : List Numbered) : Type 0 where
  ts : List Token
  numbered : xs ≡ number_from k ts

record Step (k : ℕ) (x : Numbered) (xs : List Numbered) : Type 0 where
  number : x.spot.number ≡ k
  behind : From (suc k) xs

step_of : (k : ℕ) (x : Numbered) (xs : List Numbered) (ts : List Token) → x ∷ xs ≡ number_from k ts → Step k x xs
step_of k x xs [] h = cc
step_of k x xs (t ∷ ts) h =
    let first : x ≡ record { spot = record { number = k; start = t.start; end = t.end }; kind = t.kind } = cc in
    let rest : xs ≡ number_from (suc k) ts = cc in
    record { number = ap (λ (y : Numbered). y.spot.number) first; behind = record { ts = ts; numbered = rest } }

step : (k : ℕ) (x : Numbered) (xs : List Numbered) → From k (x ∷ xs) → Step k x xs
step k x xs f = step_of k x xs f.ts f.numbered

-- ---- parts that rise

abbrev pub NotImplied : Datum → Type 0
NotImplied (atom p (spelled leaf)) = Unit {0}
NotImplied (atom p (implied mark)) = ⊥
NotImplied (list p ds) = Unit {0}
NotImplied (vector p ds) = Unit {0}
NotImplied (bytes p texts) = Unit {0}

-- what stands behind an atom that is implied isn't
abbrev pub Follows : Datum → Data → Type 0
Follows d none = Unit {0}
Follows d (tail e) = Unit {0}
Follows (atom p (implied mark)) (part e ds) = NotImplied e
Follows (atom p (spelled leaf)) (part e ds) = Unit {0}
Follows (list p cs) (part e ds) = Unit {0}
Follows (vector p cs) (part e ds) = Unit {0}
Follows (bytes p texts) (part e ds) = Unit {0}

-- the parts of a datum begin at tokens that rise
abbrev mutual
  pub Inner : Datum → Type 0
  Inner (atom p a) = Unit {0}
  Inner (list p ds) = Rise p.first ds
  Inner (vector p ds) = Rise p.first ds
  Inner (bytes p texts) = Unit {0}

  pub Rise : ℕ → Data → Type 0
  Rise low none = Unit {0}
  Rise low (part d ds) = (low ≤ (place_of d).first) × (Inner d × (Follows d ds × Rise (suc (place_of d).first) ds))
  Rise low (tail d) = (low ≤ (place_of d).first) × Inner d

lower : (low high : ℕ) (ds : Data) → low ≤ high → Rise high ds → Rise low ds
lower low high none h a = tt
lower low high (part d ds) h a = (omega (arith, h, a.0), a.1)
lower low high (tail d) h a = (omega (arith, h, a.0), a.1)

follows_any : (d : Datum) (ds : Data) → NotImplied d → Follows d ds
follows_any d none h = tt
follows_any d (tail e) h = tt
follows_any (atom p (implied mark)) (part e ds) h = absurd h
follows_any (atom p (spelled leaf)) (part e ds) h = tt
follows_any (list p cs) (part e ds) h = tt
follows_any (vector p cs) (part e ds) h = tt
follows_any (bytes p texts) (part e ds) h = tt

meant_not : (w : Written) → NotImplied (meant w)
meant_not (alone s leaf) = tt
meant_not (listed o ps c) = tt
meant_not (tailed o g w ps dot h t i c) = tt
meant_not (vectored o ps c) = tt
meant_not (byted o bs c) = tt
meant_not (abbreviated s mark g w) = tt

tail_rises : (low : ℕ) (d : Datum) → low ≤ (place_of d).first → Inner d → Rise low (tail_of d)
tail_rises low (atom p a) h q = (h, q)
tail_rises low (list p ds) h q = lower low p.first ds h q
tail_rises low (vector p ds) h q = (h, q)
tail_rises low (bytes p texts) h q = (h, q)

-- ---- what was written

record Past (k : ℕ) (rest : List Numbered) : Type 0 where
  next : ℕ
  later : k ≤ next
  from : From next rest

record Meant (k : ℕ) (d : Datum) (rest : List Numbered) : Type 0 where
  first : (place_of d).first ≡ k
  inner : Inner d
  past : Past (suc k) rest

record Row (k : ℕ) (ps : Parts) (rest : List Numbered) : Type 0 where
  past : Past k rest
  all : (end : Data) → Rise past.next end → Rise k (row (parts_meant ps) end)

past_more : (k m : ℕ) (rest : List Numbered) → k ≤ m → Past m rest → Past k rest
past_more k m rest h p = record { next = p.next; later = omega (arith, h, p.later); from = p.from }

mutual
  unfolding past_more

  gap_past : (g : Gap) (k : ℕ) (rest : List Numbered) → From k (gap_tokens g rest) → Past k rest
  gap_past nothing k rest f = record { next = k; later = omega arith; from = f }
  gap_past (skipped s g w h) k rest f =
      let a = step k _ _ f in
      let b = gap_past g (suc k) (written_tokens w (gap_tokens h rest)) a.behind in
      let c = written_rises w b.next (gap_tokens h rest) b.from in
      let d = gap_past h c.past.next rest c.past.from in
      past_more k c.past.next rest (omega (arith, b.later, c.past.later)) d

  written_rises : (w : Written) (k : ℕ) (rest : List Numbered) → From k (written_tokens w rest) → Meant k (meant w) rest
  written_rises (alone s leaf) k rest f =
      let a = step k _ _ f in
      record { first = a.number; inner = tt; past = record { next = suc k; later = omega arith; from = a.behind } }
  written_rises (listed o ps c) k rest f =
      let a = step k _ _ f in
      let b = parts_rise ps (suc k) (token c kinds.Close ∷ rest) a.behind in
      let e = step b.past.next _ _ b.past.from in
      record {
        first = a.number;
        inner = lower o.number (suc k) (row (parts_meant ps) none) (omega (arith, a.number)) (b.all none tt);
        past = record { next = suc b.past.next; later = omega (arith, b.past.later); from = e.behind };
      }
  written_rises (tailed o g w ps dot h t i c) k rest f =
      let a = step k _ _ f in
      let b = gap_past g (suc k) _ a.behind in
      let e = written_rises w b.next _ b.from in
      let q = parts_rise ps e.past.next _ e.past.from in
      let d = step q.past.next _ _ q.past.from in
      let j = gap_past h (suc q.past.next) _ d.behind in
      let u = written_rises t j.next _ j.from in
      let v = gap_past i u.past.next _ u.past.from in
      let z = step v.next _ _ v.from in
      let end = tail_rises q.past.next (meant t) (omega (arith, u.first, j.later)) u.inner in
      let more = lower (suc (place_of (meant w)).first) e.past.next (row (parts_meant ps) (tail_of (meant t))) (omega (arith, e.first, e.past.later)) (q.all (tail_of (meant t)) end) in
      record {
        first = a.number;
        inner = (omega (arith, a.number, e.first, b.later), (e.inner, (follows_any (meant w) (row (parts_meant ps) (tail_of (meant t))) (meant_not w), more)));
        past = record { next = suc v.next; later = omega (arith, b.later, e.past.later, q.past.later, j.later, u.past.later, v.later); from = z.behind };
      }
  written_rises (vectored o ps c) k rest f =
      let a = step k _ _ f in
      let b = parts_rise ps (suc k) (token c kinds.Close ∷ rest) a.behind in
      let e = step b.past.next _ _ b.past.from in
      record {
        first = a.number;
        inner = lower o.number (suc k) (row (parts_meant ps) none) (omega (arith, a.number)) (b.all none tt);
        past = record { next = suc b.past.next; later = omega (arith, b.past.later); from = e.behind };
      }
  written_rises (byted o bs c) k rest f =
      let a = step k _ _ f in
      let b = bytes_past bs (suc k) (token c kinds.Close ∷ rest) a.behind in
      let e = step b.next _ _ b.from in
      record { first = a.number; inner = tt; past = record { next = suc b.next; later = omega (arith, b.later); from = e.behind } }
  written_rises (abbreviated s mark g w) k rest f =
      let a = step k _ _ f in
      let b = gap_past g (suc k) _ a.behind in
      let e = written_rises w b.next rest b.from in
      record {
        first = a.number;
        inner = (omega arith, (tt, (meant_not w, (omega (arith, a.number, e.first, b.later), (e.inner, (follows_any (meant w) none (meant_not w), tt))))));
        past = past_more (suc k) (suc b.next) rest (omega (arith, b.later)) e.past;
      }

  parts_rise : (ps : Parts) (k : ℕ) (rest : List Numbered) → From k (parts_tokens ps rest) → Row k ps rest
  parts_rise (last g) k rest f = let a = gap_past g k rest f in record { past = a; all = λ end e. lower k a.next end a.later e }
  parts_rise (next g w ps) k rest f =
      let a = gap_past g k _ f in
      let b = written_rises w a.next _ a.from in
      let c = parts_rise ps b.past.next rest b.past.from in
      record {
        past = record { next = c.past.next; later = omega (arith, a.later, b.past.later, c.past.later); from = c.past.from };
        all = λ end e. (
          omega (arith, b.first, a.later),
          (b.inner, (follows_any (meant w) (row (parts_meant ps) end) (meant_not w), lower (suc (place_of (meant w)).first) b.past.next (row (parts_meant ps) end) (omega (arith, b.first, b.past.later)) (c.all end e))),
        );
      }

  bytes_past : (bs : Bytes) (k : ℕ) (rest : List Numbered) → From k (bytes_tokens bs rest) → Past k rest
  bytes_past (last_byte g) k rest f = gap_past g k rest f
  bytes_past (byte g s text fits bs) k rest f =
      let a = gap_past g k _ f in
      let b = step a.next _ _ a.from in
      past_more k (suc a.next) rest (omega (arith, a.later)) (bytes_past bs (suc a.next) rest b.behind)

-- ---- parts of data

mutual
  pub in_rises : (d e : Datum) → IsIn d e → Inner e → Inner d
  in_rises d (atom p a) h q = subst Inner (sym h) q
  in_rises d (list p ds) (inl h) q = subst Inner (sym h) q
  in_rises d (list p ds) (inr h) q = among_rises d p.first ds h q
  in_rises d (vector p ds) (inl h) q = subst Inner (sym h) q
  in_rises d (vector p ds) (inr h) q = among_rises d p.first ds h q
  in_rises d (bytes p texts) h q = subst Inner (sym h) q

  among_rises : (d : Datum) (low : ℕ) (ds : Data) → IsAmong d ds → Rise low ds → Inner d
  among_rises d low none h q = absurd h
  among_rises d low (part e ds) (inl h) q = in_rises d e h q.1.0
  among_rises d low (part e ds) (inr h) q = among_rises d (suc (place_of e).first) ds h q.1.1.1
  among_rises d low (tail e) h q = in_rises d e h q.1

-- what was read
pub read_rises : (d : Datum) → WasRead d → Inner d
read_rises d w =
    let ps = w.reading.written in
    let begin : From 0 (parts_tokens ps []) = record { ts = w.reading.tokens; numbered = w.reading.formed } in
    let all = (parts_rise ps 0 [] begin).all none tt in
    let among : IsAmong d (row (parts_meant ps) none) = subst (λ (q : List Datum). IsAmong d (row q none)) w.reading.means w.among in
    among_rises d 0 (row (parts_meant ps) none) among all

mutual
  in_behind : (d e : Datum) → IsIn d e → Inner e → (place_of e).first ≤ (place_of d).first
  in_behind d (atom p a) h q = let same = ap (λ (x : Datum). (place_of x).first) h in omega (arith, same)
  in_behind d (list p ds) (inl h) q = let same = ap (λ (x : Datum). (place_of x).first) h in omega (arith, same)
  in_behind d (list p ds) (inr h) q = among_behind d p.first ds h q
  in_behind d (vector p ds) (inl h) q = let same = ap (λ (x : Datum). (place_of x).first) h in omega (arith, same)
  in_behind d (vector p ds) (inr h) q = among_behind d p.first ds h q
  in_behind d (bytes p texts) h q = let same = ap (λ (x : Datum). (place_of x).first) h in omega (arith, same)

  among_behind : (d : Datum) (low : ℕ) (ds : Data) → IsAmong d ds → Rise low ds → low ≤ (place_of d).first
  among_behind d low none h q = absurd h
  among_behind d low (part e ds) (inl h) q = omega (arith, q.0, in_behind d e h q.1.0)
  among_behind d low (part e ds) (inr h) q = omega (arith, q.0, among_behind d (suc (place_of e).first) ds h q.1.1.1)
  among_behind d low (tail e) h q = omega (arith, q.0, in_behind d e h q.1)

-- a part of what was read begins no earlier
pub part_behind : (d e : Datum) → IsIn d e → WasRead e → (place_of e).first ≤ (place_of d).first
part_behind d e h w = in_behind d e h (read_rises e w)
