-- The identifiers of a datum's tree were read from the name tokens at their places.
use Rattle.std.proofs.Common.{◌≡◌, ℕ, suc, ◌+◌, ◌≤◌, List, [], ◌∷◌, slice_get, Some, refl, sym, ap, ◌∙◌, subst, arith, inl, inr}
use Rattle.std.specs.Str.{encode_utf8_all}
use Rattle.scheme_model.specs.Kinds.{Leaf, Name, Numeral, Quoted, Character, Truth, Mark, TokenKind, Atomic, Token}
use Rattle.scheme_model.specs.Kinds as kinds
use Rattle.scheme_model.specs.Data.{spelled, implied, Datum, atom, list, vector, bytes, Data, none, part, tail, row, tail_of, place_of}
use Rattle.scheme_model.specs.Numbered.{Numbered, number_from}
use Rattle.scheme_model.specs.Written.{Written, alone, listed, tailed, vectored, byted, abbreviated, Gap, nothing, skipped, Parts, last, next, Bytes, last_byte, byte, token, written_tokens, gap_tokens, parts_tokens, bytes_tokens, meant, parts_meant}
use Rattle.scheme_model.specs.Trees.{placed_in}
use Rattle.datum_reader.specs.WellFormed.{IsIn, IsAmong, WasRead}
use Rattle.datum_reader.specs.Seeded.{tree_of, parts_of, end_of, seeded}
use Rattle.datum_reader.specs.NameTokens.{IsNameToken, NamesAreTokens, AllAreTokens, TailIsTokens}

module _ (tokens : List Token) where
  -- ---- what is numbered stands at its number

  -- these are the tokens from a number on
  pub record From (k : ℕ) (xs : List Numbered) : Type 0 where
    pub ts : List Token
    pub numbered : xs ≡ number_from k ts
    pub there : (i : ℕ) → slice_get tokens (k + i) ≡ slice_get ts i

  -- the first of them, and those behind it
  record Step (k : ℕ) (x : Numbered) (xs : List Numbered) : Type 0 where
    number : x.spot.number ≡ k
    token : Token
    there : slice_get tokens k ≡ Some token
    kind : token.kind ≡ x.kind
    behind : From (suc k) xs

  step_of : (k : ℕ) (x : Numbered) (xs : List Numbered) (ts : List Token) → x ∷ xs ≡ number_from k ts → ((i : ℕ) → slice_get tokens (k + i) ≡ slice_get ts i) → Step k x xs
  step_of k x xs [] h there = cc
  step_of k x xs (t ∷ ts) h there =
      let first : x ≡ record { spot = record { number = k; start = t.start; end = t.end }; kind = t.kind } = cc in
      let rest : xs ≡ number_from (suc k) ts = cc in
      record {
        number = ap (λ (y : Numbered). y.spot.number) first;
        token = t;
        there = ap (slice_get tokens) (omega arith) ∙ there 0;
        kind = sym (ap (λ (y : Numbered). y.kind) first);
        behind = record { ts = ts; numbered = rest; there = λ i. ap (slice_get tokens) (omega arith) ∙ there (suc i) };
      }

  step : (k : ℕ) (x : Numbered) (xs : List Numbered) → From k (x ∷ xs) → Step k x xs
  step k x xs f = step_of k x xs f.ts f.numbered f.there

  -- ---- data whose names stand at their places, none before the datum's own

  abbrev pub NameAt : ℕ → Leaf → Type 0
  NameAt n (Name name bars) = IsNameToken tokens n (encode_utf8_all name)
  NameAt n (Numeral text) = Unit {0}
  NameAt n (Quoted text) = Unit {0}
  NameAt n (Character c) = Unit {0}
  NameAt n (Truth b) = Unit {0}

  abbrev mutual
    pub Placed : Datum → Type 0
    Placed (atom p (spelled leaf)) = NameAt p.first leaf
    Placed (atom p (implied mark)) = Unit {0}
    Placed (list p ds) = AllPlaced p.first ds
    Placed (vector p ds) = AllPlaced p.first ds
    Placed (bytes p texts) = Unit {0}

    pub AllPlaced : ℕ → Data → Type 0
    AllPlaced low none = Unit {0}
    AllPlaced low (part d ds) = (low ≤ (place_of d).first) × (Placed d × AllPlaced low ds)
    AllPlaced low (tail d) = (low ≤ (place_of d).first) × Placed d

  lower : (low high : ℕ) (ds : Data) → low ≤ high → AllPlaced high ds → AllPlaced low ds
  lower low high none h a = tt
  lower low high (part d ds) h a = (omega (arith, h, a.0), (a.1.0, lower low high ds h a.1.1))
  lower low high (tail d) h a = (omega (arith, h, a.0), a.1)

  tail_placed : (low : ℕ) (d : Datum) → low ≤ (place_of d).first → Placed d → AllPlaced low (tail_of d)
  tail_placed low (atom p a) h q = (h, q)
  tail_placed low (list p ds) h q = lower low p.first ds h q
  tail_placed low (vector p ds) h q = (h, q)
  tail_placed low (bytes p texts) h q = (h, q)

  name_at : (k : ℕ) (leaf : Leaf) (t : Token) → slice_get tokens k ≡ Some t → t.kind ≡ Atomic leaf → NameAt k leaf
  name_at k (Name name bars) t there kind = record { token = t; there = there; name = name; bars = bars; kind = kind; spells = refl }
  name_at k (Numeral text) t there kind = tt
  name_at k (Quoted text) t there kind = tt
  name_at k (Character c) t there kind = tt
  name_at k (Truth b) t there kind = tt

  -- ---- what was written

  pub record Past (k : ℕ) (rest : List Numbered) : Type 0 where
    pub next : ℕ
    pub later : k ≤ next
    pub from : From next rest

  record Meant (k : ℕ) (d : Datum) (rest : List Numbered) : Type 0 where
    first : (place_of d).first ≡ k
    placed : Placed d
    past : Past k rest

  pub record Row (k low : ℕ) (ps : Parts) (rest : List Numbered) : Type 0 where
    pub past : Past k rest
    pub all : (end : Data) → AllPlaced low end → AllPlaced low (row (parts_meant ps) end)

  past_more : (k m : ℕ) (rest : List Numbered) → k ≤ m → Past m rest → Past k rest
  past_more k m rest h p = record { next = p.next; later = omega (arith, h, p.later); from = p.from }

  mutual
    gap_past : (g : Gap) (k : ℕ) (rest : List Numbered) → From k (gap_tokens g rest) → Past k rest
    gap_past nothing k rest f = record { next = k; later = omega arith; from = f }
    gap_past (skipped s g w h) k rest f =
        let a = step k _ _ f in
        let b = gap_past g (suc k) (written_tokens w (gap_tokens h rest)) a.behind in
        let c = written_placed w b.next (gap_tokens h rest) b.from in
        let d = gap_past h c.past.next rest c.past.from in
        past_more k c.past.next rest (omega (arith, b.later, c.past.later)) d

    written_placed : (w : Written) (k : ℕ) (rest : List Numbered) → From k (written_tokens w rest) → Meant k (meant w) rest
    written_placed (alone s leaf) k rest f =
        let a = step k _ _ f in
        record {
          first = a.number;
          placed = subst (λ (n : ℕ). NameAt n leaf) (sym a.number) (name_at k leaf a.token a.there a.kind);
          past = record { next = suc k; later = omega arith; from = a.behind };
        }
    written_placed (listed o ps c) k rest f =
        let a = step k _ _ f in
        let b = parts_placed ps (suc k) k (token c kinds.Close ∷ rest) (omega arith) a.behind in
        let e = step b.past.next _ _ b.past.from in
        record {
          first = a.number;
          placed = subst (λ (n : ℕ). AllPlaced n (row (parts_meant ps) none)) (sym a.number) (b.all none tt);
          past = record { next = suc b.past.next; later = omega (arith, b.past.later); from = e.behind };
        }
    written_placed (tailed o g w ps dot h t i c) k rest f =
        let a = step k _ _ f in
        let b = gap_past g (suc k) _ a.behind in
        let e = written_placed w b.next _ b.from in
        let q = parts_placed ps e.past.next k _ (omega (arith, b.later, e.past.later)) e.past.from in
        let d = step q.past.next _ _ q.past.from in
        let j = gap_past h (suc q.past.next) _ d.behind in
        let u = written_placed t j.next _ j.from in
        let v = gap_past i u.past.next _ u.past.from in
        let z = step v.next _ _ v.from in
        let end = tail_placed k (meant t) (omega (arith, u.first, b.later, e.past.later, q.past.later, j.later)) u.placed in
        record {
          first = a.number;
          placed = subst (λ (n : ℕ). AllPlaced n (row (meant w ∷ parts_meant ps) (tail_of (meant t)))) (sym a.number) (omega (arith, e.first, b.later), (e.placed, q.all (tail_of (meant t)) end));
          past = record { next = suc v.next; later = omega (arith, b.later, e.past.later, q.past.later, j.later, u.past.later, v.later); from = z.behind };
        }
    written_placed (vectored o ps c) k rest f =
        let a = step k _ _ f in
        let b = parts_placed ps (suc k) k (token c kinds.Close ∷ rest) (omega arith) a.behind in
        let e = step b.past.next _ _ b.past.from in
        record {
          first = a.number;
          placed = subst (λ (n : ℕ). AllPlaced n (row (parts_meant ps) none)) (sym a.number) (b.all none tt);
          past = record { next = suc b.past.next; later = omega (arith, b.past.later); from = e.behind };
        }
    written_placed (byted o bs c) k rest f =
        let a = step k _ _ f in
        let b = bytes_past bs (suc k) (token c kinds.Close ∷ rest) a.behind in
        let e = step b.next _ _ b.from in
        record { first = a.number; placed = tt; past = record { next = suc b.next; later = omega (arith, b.later); from = e.behind } }
    written_placed (abbreviated s mark g w) k rest f =
        let a = step k _ _ f in
        let b = gap_past g (suc k) _ a.behind in
        let e = written_placed w b.next rest b.from in
        record {
          first = a.number;
          placed = (omega arith, (tt, subst (λ (n : ℕ). AllPlaced n (part (meant w) none)) (sym a.number) (omega (arith, e.first, b.later), (e.placed, tt))));
          past = past_more k b.next rest (omega (arith, b.later)) e.past;
        }

    pub parts_placed : (ps : Parts) (k low : ℕ) (rest : List Numbered) → low ≤ k → From k (parts_tokens ps rest) → Row k low ps rest
    parts_placed (last g) k low rest h f = record { past = gap_past g k rest f; all = λ end a. a }
    parts_placed (next g w ps) k low rest h f =
        let a = gap_past g k _ f in
        let b = written_placed w a.next _ a.from in
        let c = parts_placed ps b.past.next low rest (omega (arith, h, a.later, b.past.later)) b.past.from in
        record {
          past = past_more k b.past.next rest (omega (arith, a.later, b.past.later)) c.past;
          all = λ end e. (omega (arith, b.first, h, a.later), (b.placed, c.all end e));
        }

    bytes_past : (bs : Bytes) (k : ℕ) (rest : List Numbered) → From k (bytes_tokens bs rest) → Past k rest
    bytes_past (last_byte g) k rest f = gap_past g k rest f
    bytes_past (byte g s text fits bs) k rest f =
        let a = gap_past g k _ f in
        let b = step a.next _ _ a.from in
        past_more k (suc a.next) rest (omega (arith, a.later)) (bytes_past bs (suc a.next) rest b.behind)

  -- ---- parts of data

  mutual
    in_placed : (d e : Datum) → IsIn d e → Placed e → Placed d
    in_placed d (atom p a) h q = subst Placed (sym h) q
    in_placed d (list p ds) (inl h) q = subst Placed (sym h) q
    in_placed d (list p ds) (inr h) q = among_placed d p.first ds h q
    in_placed d (vector p ds) (inl h) q = subst Placed (sym h) q
    in_placed d (vector p ds) (inr h) q = among_placed d p.first ds h q
    in_placed d (bytes p texts) h q = subst Placed (sym h) q

    among_placed : (d : Datum) (low : ℕ) (ds : Data) → IsAmong d ds → AllPlaced low ds → Placed d
    among_placed d low none h q = absurd h
    among_placed d low (part e ds) (inl h) q = in_placed d e h q.1.0
    among_placed d low (part e ds) (inr h) q = among_placed d low ds h q.1.1
    among_placed d low (tail e) h q = in_placed d e h q.1

  -- ---- trees

  module _ (unit form first : ℕ) where
    leaf_tokens : (n : ℕ) (leaf : Leaf) → first ≤ n → NameAt n leaf → NamesAreTokens tokens first (tree_of unit (placed_in unit form first) (atom (record { first = n; last = n; start = 0; end = 0 }) (spelled leaf)))
    leaf_tokens n (Name name bars) h q = subst (λ (m : ℕ). IsNameToken tokens m (encode_utf8_all name)) (omega (arith, h)) q
    leaf_tokens n (Numeral text) h q = tt
    leaf_tokens n (Quoted text) h q = tt
    leaf_tokens n (Character c) h q = tt
    leaf_tokens n (Truth b) h q = tt

    mutual
      names_placed : (d : Datum) → first ≤ (place_of d).first → Placed d → NamesAreTokens tokens first (tree_of unit (placed_in unit form first) d)
      names_placed (atom p (spelled leaf)) h q = leaf_tokens p.first leaf h q
      names_placed (atom p (implied mark)) h q = tt
      names_placed (list p ds) h q = (all_placed p.first ds h q, end_placed p.first ds h q)
      names_placed (vector p ds) h q = all_placed p.first ds h q
      names_placed (bytes p texts) h q = tt

      all_placed : (low : ℕ) (ds : Data) → first ≤ low → AllPlaced low ds → AllAreTokens tokens first (parts_of unit (placed_in unit form first) ds)
      all_placed low none h q = tt
      all_placed low (part d ds) h q = (names_placed d (omega (arith, h, q.0)) q.1.0, all_placed low ds h q.1.1)
      all_placed low (tail d) h q = tt

      end_placed : (low : ℕ) (ds : Data) → first ≤ low → AllPlaced low ds → TailIsTokens tokens first (end_of unit (placed_in unit form first) ds)
      end_placed low none h q = tt
      end_placed low (part d ds) h q = end_placed low ds h q.1.1
      end_placed low (tail d) h q = names_placed d (omega (arith, h, q.0)) q.1

-- all identifiers of what was read
pub names_read : (d : Datum) (unit form : ℕ) (w : WasRead d) → NamesAreTokens w.reading.tokens (place_of d).first (seeded unit form d)
names_read d unit form w =
    let tokens = w.reading.tokens in
    let ps = w.reading.written in
    let begin : From tokens 0 (parts_tokens ps []) = record { ts = tokens; numbered = w.reading.formed; there = λ i. ap (slice_get tokens) (omega arith) } in
    let all = (parts_placed tokens ps 0 0 [] (omega arith) begin).all none tt in
    let among : IsAmong d (row (parts_meant ps) none) = subst (λ (q : List Datum). IsAmong d (row q none)) w.reading.means w.among in
    names_placed tokens unit form (place_of d).first d (omega arith) (among_placed tokens d 0 (row (parts_meant ps) none) among all)
