-- No two points differ exactly where all agree; what is bound agrees with itself; and agreement goes both ways round.
use Rattle.std.proofs.Common.{◌≡◌, ◌↔◌, ℕ, zero, suc, ◌==◌, max, List, [], ◌∷◌, ◌++◌, map, length, Bool, true, false, cond, ◌&&◌, ◌||◌, Option, Some, None, refl, sym, ap, subst, ◌∙◌, arith}
use Rattle.std.specs.Str.{bytes_eq}
use Rattle.std.specs.List.{zip, flat_map}
use Rattle.std.proofs.lemmas.Slice.Eq.{bytes_eq-Decides}
use Rattle.std.proofs.lemmas.Bool.Decides.{nat_tests}
use Rattle.scheme_model.specs.declared.Occ.{Occ}
use Rattle.scheme_model.specs.Identifiers.{Number, same_number}
use Rattle.scheme_model.specs.IncludedUnits.{Placed}
use Rattle.scheme_model.specs.Program.{UnitResult, Program, result_at}
use Rattle.scheme_model.specs.ProgramArrows.{program_table}
use Rattle.scheme_model.specs.Substitution.{Table}
use Rattle.rename_model.specs.Walks.{Node, node_number, Seen, OfNode, OfNumber, OfName, OfDefinition, OfLocal, OfBinders, Point}
use Rattle.rename_model.specs.SameProgram.{Partners, are_partners, seen_code, partner_seen, agree, paired, paired_with, left_out, points_agree, Agree, Stretch, stretch, AllAgree, listed_points, listed_stretches, unit_errors, least_of, error_points, error_stretch, form_points_at, form_stretches, form_count, exports_at, name_asked, unit_stretches, stretches, live_in, Plan, IsSame}
use Rattle.rename_model.specs.Difference.{alone, first_apart, Apart, apart_in, first_among, Difference, difference, option_difference, difference_in}
use Rattle.rename_model.specs.Bound.{bound_among, is_bound, binds_in, AllBound, AllStretchesBound, HaveNoErrors, LeftOutAlike, AllLeftOutAlike}

some_none : {A : Type 0} (x : A) → Some x ≡ None → ⊥
some_none x e = cc

-- ---- none and same

agree_when : (live : Option Occ → Bool) (ps : Partners) (o n : Point) (os ns : List Point) (b : Bool) → points_agree live ps o n ≡ b →
    (first_apart live (paired o.seen n.seen ++ ps) os ns ≡ None → Agree live (paired o.seen n.seen ++ ps) os ns) →
    cond b (first_apart live (paired o.seen n.seen ++ ps) os ns) (Some (o, n)) ≡ None → Agree live ps (o ∷ os) (n ∷ ns)
agree_when live ps o n os ns true e f h = (e, f h)
agree_when live ps o n os ns false e f h = absurd (some_none (o, n) h)

pub none_agree : (live : Option Occ → Bool) (ps : Partners) (os ns : List Point) → first_apart live ps os ns ≡ None → Agree live ps os ns
none_agree live ps [] [] h = tt
none_agree live ps [] (n ∷ ns) h = absurd (some_none (alone n, alone n) h)
none_agree live ps (o ∷ os) [] h = absurd (some_none (alone o, alone o) h)
none_agree live ps (o ∷ os) (n ∷ ns) h =
    agree_when live ps o n os ns (points_agree live ps o n) refl (none_agree live (paired o.seen n.seen ++ ps) os ns) h

pub agree_none : (live : Option Occ → Bool) (ps : Partners) (os ns : List Point) → Agree live ps os ns → first_apart live ps os ns ≡ None
agree_none live ps [] [] h = refl
agree_none live ps [] (n ∷ ns) h = absurd h
agree_none live ps (o ∷ os) [] h = absurd h
agree_none live ps (o ∷ os) (n ∷ ns) h =
    ap (λ (b : Bool). cond b (first_apart live (paired o.seen n.seen ++ ps) os ns) (Some (o, n))) h.0 ∙ agree_none live (paired o.seen n.seen ++ ps) os ns h.1

among_when : (live : Option Occ → Bool) (s : Stretch) (ss : List Stretch) (q : Option (Point × Point)) → first_apart live [] s.old s.new ≡ q →
    (first_among live ss ≡ None → AllAgree live ss) → apart_in s q (first_among live ss) ≡ None → AllAgree live (s ∷ ss)
among_when live s ss None e f h = (none_agree live [] s.old s.new e, f h)
among_when live s ss (Some p) e f h = absurd (some_none (record { unit = s.unit; form = s.form; old = p.0; new = p.1 }) h)

pub none_all : (live : Option Occ → Bool) (ss : List Stretch) → first_among live ss ≡ None → AllAgree live ss
none_all live [] h = tt
none_all live (s ∷ ss) h = among_when live s ss (first_apart live [] s.old s.new) refl (none_all live ss) h

pub all_none : (live : Option Occ → Bool) (ss : List Stretch) → AllAgree live ss → first_among live ss ≡ None
all_none live [] h = refl
all_none live (s ∷ ss) h = ap (λ (q : Option (Point × Point)). apart_in s q (first_among live ss)) (agree_none live [] s.old s.new h.0) ∙ all_none live ss h.1

none_told : (old new : Program) (ms : List Occ) (q : Option Apart) → option_difference old new ms q ≡ None → q ≡ None
none_told old new ms None h = refl
none_told old new ms (Some a) h = absurd (some_none (difference old new ms a) h)

pub none_is_same : (all : List Placed) (old new : Program) (plan : Plan) (reach : List ℕ) → difference_in all old new plan reach ≡ None ↔ IsSame all old new plan.exports reach
none_is_same all old new plan reach = (
  λ h. none_all (live_in all old) (stretches old new plan.exports reach) (none_told old new plan.members (first_among (live_in all old) (stretches old new plan.exports reach)) h),
  λ h. ap (option_difference old new plan.members) (all_none (live_in all old) (stretches old new plan.exports reach) h),
)

-- ---- stretches one after another

pub all_append : (live : Option Occ → Bool) (xs ys : List Stretch) → AllAgree live xs → AllAgree live ys → AllAgree live (xs ++ ys)
all_append live [] ys h k = k
all_append live (x ∷ xs) ys h k = (h.0, all_append live xs ys h.1 k)

pub all_split : (live : Option Occ → Bool) (xs ys : List Stretch) → AllAgree live (xs ++ ys) → AllAgree live xs × AllAgree live ys
all_split live [] ys h = (tt, h)
all_split live (x ∷ xs) ys h = let q = all_split live xs ys h.1 in ((h.0, q.0), q.1)

-- ---- the same as itself

same_bytes : (s : List ℕ) → bytes_eq s s ≡ true
same_bytes s = (bytes_eq-Decides s s).1 refl

same_nat : (a : ℕ) → (a == a) ≡ true
same_nat a = grind (arith, nat_tests)

both_true : (a b : Bool) → a ≡ true → b ≡ true → (a && b) ≡ true
both_true a b p q = cc

pub same_itself : (v : Number) → same_number v v ≡ true
same_itself v = both_true (v.unit == v.unit) (v.form == v.form && v.count == v.count) (same_nat v.unit) (both_true (v.form == v.form) (v.count == v.count) (same_nat v.form) (same_nat v.count))

-- each with itself
abbrev twins : List Number → Partners
twins vs = map (λ v. (v, v)) vs

zip_twins : (vs : List Number) → zip vs vs ≡ twins vs
zip_twins [] = refl
zip_twins (v ∷ vs) = ap (λ (ps : Partners). (v, v) ∷ ps) (zip_twins vs)

twins_append : (vs ws : List Number) → twins (vs ++ ws) ≡ twins vs ++ twins ws
twins_append [] ws = refl
twins_append (v ∷ vs) ws = ap (λ (ps : Partners). (v, v) ∷ ps) (twins_append vs ws)

-- ---- what is bound has itself as a partner

either_true : (a b c : Bool) → (a || b) ≡ true → (b ≡ true → c ≡ true) → ((a && a) || c) ≡ true
either_true true b c h f = refl
either_true false b c h f = f h

bound_partner : (vs : List Number) (v : Number) → bound_among vs v ≡ true → are_partners (twins vs) v v ≡ true
bound_partner [] v h = absurd cc
bound_partner (w ∷ vs) v h = either_true (same_number w v) (bound_among vs v) (are_partners (twins vs) v v) h (bound_partner vs v)

agree_itself : (vs : List Number) (s : Seen) → is_bound vs s ≡ true → agree (twins vs) s s ≡ true
agree_itself vs (OfNode k) h = same_bytes (seen_code (OfNode k))
agree_itself vs (OfNumber n) h = same_bytes (seen_code (OfNumber n))
agree_itself vs (OfName k s) h = same_bytes (seen_code (OfName k s))
agree_itself vs (OfDefinition u n) h = same_bytes (seen_code (OfDefinition u n))
agree_itself vs (OfLocal v) h = bound_partner vs v h
agree_itself vs (OfBinders k ws) h = same_bytes (seen_code (OfBinders k ws))

paired_itself : (s : Seen) → paired s s ≡ twins (binds_in s)
paired_itself (OfNode k) = refl
paired_itself (OfNumber n) = refl
paired_itself (OfName k s) = refl
paired_itself (OfDefinition u n) = refl
paired_itself (OfLocal v) = refl
paired_itself (OfBinders k vs) = ap (λ (b : Bool). cond b (zip vs vs) []) (same_nat (node_number k)) ∙ zip_twins vs

or_right : (a b : Bool) → b ≡ true → (a || b) ≡ true
or_right true b h = refl
or_right false b h = h

pub agrees_itself : (live : Option Occ → Bool) (vs : List Number) (os : List Point) → AllBound vs os → Agree live (twins vs) os os
agrees_itself live vs [] h = tt
agrees_itself live vs (o ∷ os) h = (
  or_right (left_out live o) (agree (twins vs) o.seen o.seen) (agree_itself vs o.seen h.0),
  subst (λ (ps : Partners). Agree live ps os os) (twins_append (binds_in o.seen) vs ∙ ap (λ (ps : Partners). ps ++ twins vs) (sym (paired_itself o.seen))) (agrees_itself live (binds_in o.seen ++ vs) os h.1),
)

-- ---- a program with itself

bound_split : (xs ys : List Stretch) → AllStretchesBound (xs ++ ys) → AllStretchesBound xs × AllStretchesBound ys
bound_split [] ys h = (tt, h)
bound_split (x ∷ xs) ys h = let q = bound_split xs ys h.1 in ((h.0, q.0), q.1)

module _ (live : Option Occ → Bool) (p : Program) where
  listed_itself : (place more : ℕ) → AllStretchesBound (listed_stretches p p place more) → AllAgree live (listed_stretches p p place more)
  listed_itself place zero h = tt
  listed_itself place (suc more) h = (agrees_itself live [] (listed_points (result_at p.units place)) h.0, listed_itself (suc place) more h.1)

  forms_itself : (unit : ℕ) (r : Option UnitResult) (form more : ℕ) → AllStretchesBound (form_stretches (program_table p) (program_table p) unit r r form more) →
      AllAgree live (form_stretches (program_table p) (program_table p) unit r r form more)
  forms_itself unit r form zero h = tt
  forms_itself unit r form (suc more) h = (agrees_itself live [] (form_points_at (program_table p) r form) h.0, forms_itself unit r (suc form) more h.1)

  no_error : (n : ℕ) → n ≡ 0 → Agree live [] (error_points 0) (error_points n)
  no_error n e = subst (λ (k : ℕ). Agree live [] (error_points 0) (error_points k)) (sym e) (refl, tt)

  unit_itself : (unit : ℕ) (r : Option UnitResult) → unit_errors r ≡ [] → AllStretchesBound (unit_stretches p p [] unit r r) → AllAgree live (unit_stretches p p [] unit r r)
  unit_itself unit r none h =
      let table = program_table p in
      let forms = form_stretches table table unit r r 0 (max (form_count r) (form_count r)) in
      let last = stretch unit 0 (exports_at table (name_asked [] unit) r) (exports_at table (λ s. s) r) ∷ [] in
      let q = bound_split forms last h.1 in
      (no_error (length (unit_errors r)) (ap length none), all_append live forms last (forms_itself unit r 0 (max (form_count r) (form_count r)) q.0) (agrees_itself live [] (exports_at table (λ s. s) r) q.1.0, tt))

  units_itself : (reach : List ℕ) → HaveNoErrors p reach → AllStretchesBound (flat_map (λ unit. unit_stretches p p [] unit (result_at p.units unit) (result_at p.units unit)) reach) →
      AllAgree live (flat_map (λ unit. unit_stretches p p [] unit (result_at p.units unit) (result_at p.units unit)) reach)
  units_itself [] none h = tt
  units_itself (n ∷ ns) none h =
      let first = unit_stretches p p [] n (result_at p.units n) (result_at p.units n) in
      let rest = flat_map (λ unit. unit_stretches p p [] unit (result_at p.units unit) (result_at p.units unit)) ns in
      let q = bound_split first rest h in
      all_append live first rest (unit_itself n (result_at p.units n) none.0 q.0) (units_itself ns none.1 q.1)

  pub stretches_itself : (reach : List ℕ) → HaveNoErrors p reach → AllStretchesBound (stretches p p [] reach) → AllAgree live (stretches p p [] reach)
  stretches_itself reach none h =
      let listed = listed_stretches p p 0 (max (length p.units) (length p.units)) in
      let rest = flat_map (λ unit. unit_stretches p p [] unit (result_at p.units unit) (result_at p.units unit)) reach in
      let q = bound_split listed rest h in
      all_append live listed rest (listed_itself 0 (max (length p.units) (length p.units)) q.0) (units_itself reach none q.1)

pub same_as_itself : (all : List Placed) (p : Program) (reach : List ℕ) → HaveNoErrors p reach → AllStretchesBound (stretches p p [] reach) → IsSame all p p [] reach
same_as_itself all p reach none h = stretches_itself (live_in all p) p reach none h

-- ---- both ways round

abbrev turned : Partners → Partners
turned ps = map (λ p. (p.1, p.0)) ps

turned_append : (ps qs : Partners) → turned (ps ++ qs) ≡ turned ps ++ turned qs
turned_append [] qs = refl
turned_append (p ∷ ps) qs = ap (λ (rs : Partners). (p.1, p.0) ∷ rs) (turned_append ps qs)

zip_turned : (vs ws : List Number) → turned (zip vs ws) ≡ zip ws vs
zip_turned [] [] = refl
zip_turned [] (w ∷ ws) = refl
zip_turned (v ∷ vs) [] = refl
zip_turned (v ∷ vs) (w ∷ ws) = ap (λ (rs : Partners). (w, v) ∷ rs) (zip_turned vs ws)

and_turned : (a b c d : Bool) → c ≡ d → ((a && b) || c) ≡ ((b && a) || d)
and_turned true true c d e = refl
and_turned true false c d e = e
and_turned false true c d e = e
and_turned false false c d e = e

partners_turned : (ps : Partners) (v w : Number) → are_partners ps v w ≡ are_partners (turned ps) w v
partners_turned [] v w = refl
partners_turned (p ∷ ps) v w = and_turned (same_number p.0 v) (same_number p.1 w) (are_partners ps v w) (are_partners (turned ps) w v) (partners_turned ps v w)

bytes_turned : (s t : List ℕ) → bytes_eq s t ≡ true → bytes_eq t s ≡ true
bytes_turned s t h = (bytes_eq-Decides t s).1 (sym ((bytes_eq-Decides s t).0 h))

nat_turned : (a b : ℕ) → (a == b) ≡ (b == a)
nat_turned a b = grind (arith, nat_tests)

max_turned : (a b : ℕ) → max a b ≡ max b a
max_turned a b = omega arith

pub agree_turned : (ps : Partners) (s t : Seen) → agree ps s t ≡ true → agree (turned ps) t s ≡ true
agree_turned ps (OfNode k) (OfNode l) h = bytes_turned (seen_code (OfNode k)) (seen_code (OfNode l)) h
agree_turned ps (OfNode k) (OfNumber m) h = bytes_turned (seen_code (OfNode k)) (seen_code (OfNumber m)) h
agree_turned ps (OfNode k) (OfName l t) h = bytes_turned (seen_code (OfNode k)) (seen_code (OfName l t)) h
agree_turned ps (OfNode k) (OfDefinition w m) h = bytes_turned (seen_code (OfNode k)) (seen_code (OfDefinition w m)) h
agree_turned ps (OfNode k) (OfBinders l ws) h = bytes_turned (seen_code (OfNode k)) (seen_code (OfBinders l ws)) h
agree_turned ps (OfNumber n) (OfNode l) h = bytes_turned (seen_code (OfNumber n)) (seen_code (OfNode l)) h
agree_turned ps (OfNumber n) (OfNumber m) h = bytes_turned (seen_code (OfNumber n)) (seen_code (OfNumber m)) h
agree_turned ps (OfNumber n) (OfName l t) h = bytes_turned (seen_code (OfNumber n)) (seen_code (OfName l t)) h
agree_turned ps (OfNumber n) (OfDefinition w m) h = bytes_turned (seen_code (OfNumber n)) (seen_code (OfDefinition w m)) h
agree_turned ps (OfNumber n) (OfBinders l ws) h = bytes_turned (seen_code (OfNumber n)) (seen_code (OfBinders l ws)) h
agree_turned ps (OfName k s) (OfNode l) h = bytes_turned (seen_code (OfName k s)) (seen_code (OfNode l)) h
agree_turned ps (OfName k s) (OfNumber m) h = bytes_turned (seen_code (OfName k s)) (seen_code (OfNumber m)) h
agree_turned ps (OfName k s) (OfName l t) h = bytes_turned (seen_code (OfName k s)) (seen_code (OfName l t)) h
agree_turned ps (OfName k s) (OfDefinition w m) h = bytes_turned (seen_code (OfName k s)) (seen_code (OfDefinition w m)) h
agree_turned ps (OfName k s) (OfBinders l ws) h = bytes_turned (seen_code (OfName k s)) (seen_code (OfBinders l ws)) h
agree_turned ps (OfDefinition u n) (OfNode l) h = bytes_turned (seen_code (OfDefinition u n)) (seen_code (OfNode l)) h
agree_turned ps (OfDefinition u n) (OfNumber m) h = bytes_turned (seen_code (OfDefinition u n)) (seen_code (OfNumber m)) h
agree_turned ps (OfDefinition u n) (OfName l t) h = bytes_turned (seen_code (OfDefinition u n)) (seen_code (OfName l t)) h
agree_turned ps (OfDefinition u n) (OfDefinition w m) h = bytes_turned (seen_code (OfDefinition u n)) (seen_code (OfDefinition w m)) h
agree_turned ps (OfDefinition u n) (OfBinders l ws) h = bytes_turned (seen_code (OfDefinition u n)) (seen_code (OfBinders l ws)) h
agree_turned ps (OfBinders k vs) (OfNode l) h = bytes_turned (seen_code (OfBinders k vs)) (seen_code (OfNode l)) h
agree_turned ps (OfBinders k vs) (OfNumber m) h = bytes_turned (seen_code (OfBinders k vs)) (seen_code (OfNumber m)) h
agree_turned ps (OfBinders k vs) (OfName l t) h = bytes_turned (seen_code (OfBinders k vs)) (seen_code (OfName l t)) h
agree_turned ps (OfBinders k vs) (OfDefinition w m) h = bytes_turned (seen_code (OfBinders k vs)) (seen_code (OfDefinition w m)) h
agree_turned ps (OfBinders k vs) (OfBinders l ws) h = bytes_turned (seen_code (OfBinders k vs)) (seen_code (OfBinders l ws)) h
agree_turned ps (OfNode k) (OfLocal w) h = absurd cc
agree_turned ps (OfNumber n) (OfLocal w) h = absurd cc
agree_turned ps (OfName k s) (OfLocal w) h = absurd cc
agree_turned ps (OfDefinition u None) (OfLocal w) h = absurd cc
agree_turned ps (OfDefinition u (Some n)) (OfLocal w) h = absurd cc
agree_turned ps (OfBinders k vs) (OfLocal w) h = absurd cc
agree_turned ps (OfLocal v) (OfNode l) h = absurd cc
agree_turned ps (OfLocal v) (OfNumber m) h = absurd cc
agree_turned ps (OfLocal v) (OfName l t) h = absurd cc
agree_turned ps (OfLocal v) (OfDefinition w m) h = absurd cc
agree_turned ps (OfLocal v) (OfBinders l ws) h = absurd cc
agree_turned ps (OfLocal v) (OfLocal w) h = sym (partners_turned ps v w) ∙ h

paired_turned : (s t : Seen) → turned (paired s t) ≡ paired t s
paired_turned (OfNode k) (OfNode l) = refl
paired_turned (OfNode k) (OfNumber m) = refl
paired_turned (OfNode k) (OfName l t) = refl
paired_turned (OfNode k) (OfDefinition w m) = refl
paired_turned (OfNode k) (OfLocal w) = refl
paired_turned (OfNode k) (OfBinders l ws) = refl
paired_turned (OfNumber n) (OfNode l) = refl
paired_turned (OfNumber n) (OfNumber m) = refl
paired_turned (OfNumber n) (OfName l t) = refl
paired_turned (OfNumber n) (OfDefinition w m) = refl
paired_turned (OfNumber n) (OfLocal w) = refl
paired_turned (OfNumber n) (OfBinders l ws) = refl
paired_turned (OfName k s) (OfNode l) = refl
paired_turned (OfName k s) (OfNumber m) = refl
paired_turned (OfName k s) (OfName l t) = refl
paired_turned (OfName k s) (OfDefinition w m) = refl
paired_turned (OfName k s) (OfLocal w) = refl
paired_turned (OfName k s) (OfBinders l ws) = refl
paired_turned (OfDefinition u n) (OfNode l) = refl
paired_turned (OfDefinition u n) (OfNumber m) = refl
paired_turned (OfDefinition u n) (OfName l t) = refl
paired_turned (OfDefinition u n) (OfDefinition w m) = refl
paired_turned (OfDefinition u n) (OfLocal w) = refl
paired_turned (OfDefinition u n) (OfBinders l ws) = refl
paired_turned (OfLocal v) (OfNode l) = refl
paired_turned (OfLocal v) (OfNumber m) = refl
paired_turned (OfLocal v) (OfName l t) = refl
paired_turned (OfLocal v) (OfDefinition w m) = refl
paired_turned (OfLocal v) (OfLocal w) = refl
paired_turned (OfLocal v) (OfBinders l ws) = refl
paired_turned (OfBinders k vs) (OfNode l) = refl
paired_turned (OfBinders k vs) (OfNumber m) = refl
paired_turned (OfBinders k vs) (OfName l t) = refl
paired_turned (OfBinders k vs) (OfDefinition w m) = refl
paired_turned (OfBinders k vs) (OfLocal w) = refl
paired_turned (OfBinders k vs) (OfBinders l ws) = by_kind (node_number k == node_number l) (node_number l == node_number k) (nat_turned (node_number k) (node_number l))
  where
    by_kind : (b c : Bool) → b ≡ c → turned (cond b (zip vs ws) []) ≡ cond c (zip ws vs) []
    by_kind true c e = zip_turned vs ws ∙ ap (λ (b : Bool). cond b (zip ws vs) []) e
    by_kind false c e = ap (λ (b : Bool). cond b (zip ws vs) []) e

-- points are left out on both sides or on none
points_turned : (live back : Option Occ → Bool) (ps : Partners) (o n : Point) → left_out live o ≡ left_out back n → points_agree live ps o n ≡ true → points_agree back (turned ps) n o ≡ true
points_turned live back ps o n e h = go (left_out live o) (left_out back n) e h
  where
    go : (a b : Bool) → a ≡ b → (a || agree ps o.seen n.seen) ≡ true → (b || agree (turned ps) n.seen o.seen) ≡ true
    go a true e h = refl
    go true false e h = absurd cc
    go false false e h = agree_turned ps o.seen n.seen h

pub agrees_turned : (live back : Option Occ → Bool) (ps : Partners) (os ns : List Point) → LeftOutAlike live back os ns → Agree live ps os ns → Agree back (turned ps) ns os
agrees_turned live back ps [] [] e h = tt
agrees_turned live back ps [] (n ∷ ns) e h = absurd h
agrees_turned live back ps (o ∷ os) [] e h = absurd h
agrees_turned live back ps (o ∷ os) (n ∷ ns) e h = (
  points_turned live back ps o n e.0 h.0,
  subst (λ (qs : Partners). Agree back qs ns os) (turned_append (paired o.seen n.seen) ps ∙ ap (λ (qs : Partners). qs ++ turned ps) (paired_turned o.seen n.seen))
      (agrees_turned live back (paired o.seen n.seen ++ ps) os ns e.1 h.1),
)

-- ---- two programs both ways round

alike_split : (live back : Option Occ → Bool) (xs ys : List Stretch) → AllLeftOutAlike live back (xs ++ ys) → AllLeftOutAlike live back xs × AllLeftOutAlike live back ys
alike_split live back [] ys h = (tt, h)
alike_split live back (x ∷ xs) ys h = let q = alike_split live back xs ys h.1 in ((h.0, q.0), q.1)

module _ (live back : Option Occ → Bool) (p q : Program) where
  listed_turned : (place more : ℕ) → AllLeftOutAlike live back (listed_stretches p q place more) → AllAgree live (listed_stretches p q place more) → AllAgree back (listed_stretches q p place more)
  listed_turned place zero e h = tt
  listed_turned place (suc more) e h =
      (agrees_turned live back [] (listed_points (result_at p.units place)) (listed_points (result_at q.units place)) e.0 h.0, listed_turned (suc place) more e.1 h.1)

  forms_turned : (unit : ℕ) (o n : Option UnitResult) (form more : ℕ) → AllLeftOutAlike live back (form_stretches (program_table p) (program_table q) unit o n form more) →
      AllAgree live (form_stretches (program_table p) (program_table q) unit o n form more) → AllAgree back (form_stretches (program_table q) (program_table p) unit n o form more)
  forms_turned unit o n form zero e h = tt
  forms_turned unit o n form (suc more) e h =
      (agrees_turned live back [] (form_points_at (program_table p) o form) (form_points_at (program_table q) n form) e.0 h.0, forms_turned unit o n (suc form) more e.1 h.1)

  no_error_back : (n : ℕ) → n ≡ 0 → Agree back [] (error_points 0) (error_points n)
  no_error_back n e = subst (λ (k : ℕ). Agree back [] (error_points 0) (error_points k)) (sym e) (refl, tt)

  unit_turned : (unit : ℕ) (o n : Option UnitResult) → unit_errors o ≡ [] → AllLeftOutAlike live back (unit_stretches p q [] unit o n) → AllAgree live (unit_stretches p q [] unit o n) →
      AllAgree back (unit_stretches q p [] unit n o)
  unit_turned unit o n none e h =
      let old = program_table p in
      let new = program_table q in
      let forms = form_stretches old new unit o n 0 (max (form_count o) (form_count n)) in
      let last = stretch unit 0 (exports_at old (name_asked [] unit) o) (exports_at new (λ s. s) n) ∷ [] in
      let a = alike_split live back forms last e.1 in
      let b = all_split live forms last h.1 in
      let f : AllAgree back (form_stretches new old unit n o 0 (max (form_count n) (form_count o))) =
      subst (λ (m : ℕ). AllAgree back (form_stretches new old unit n o 0 m)) (max_turned (form_count o) (form_count n)) (forms_turned unit o n 0 (max (form_count o) (form_count n)) a.0 b.0) in (
        no_error_back (length (unit_errors o)) (ap length none),
        all_append back (form_stretches new old unit n o 0 (max (form_count n) (form_count o))) (stretch unit 0 (exports_at new (name_asked [] unit) n) (exports_at old (λ s. s) o) ∷ []) f
            (agrees_turned live back [] (exports_at old (name_asked [] unit) o) (exports_at new (λ s. s) n) a.1.0 b.1.0, tt),
      )

  units_turned : (reach : List ℕ) → HaveNoErrors p reach →
      AllLeftOutAlike live back (flat_map (λ unit. unit_stretches p q [] unit (result_at p.units unit) (result_at q.units unit)) reach) →
      AllAgree live (flat_map (λ unit. unit_stretches p q [] unit (result_at p.units unit) (result_at q.units unit)) reach) →
      AllAgree back (flat_map (λ unit. unit_stretches q p [] unit (result_at q.units unit) (result_at p.units unit)) reach)
  units_turned [] none e h = tt
  units_turned (n ∷ ns) none e h =
      let first = unit_stretches p q [] n (result_at p.units n) (result_at q.units n) in
      let rest = flat_map (λ unit. unit_stretches p q [] unit (result_at p.units unit) (result_at q.units unit)) ns in
      let a = alike_split live back first rest e in
      let b = all_split live first rest h in
      all_append back (unit_stretches q p [] n (result_at q.units n) (result_at p.units n))
      (flat_map (λ unit. unit_stretches q p [] unit (result_at q.units unit) (result_at p.units unit)) ns)
      (unit_turned n (result_at p.units n) (result_at q.units n) none.0 a.0 b.0) (units_turned ns none.1 a.1 b.1)

  pub stretches_turned : (reach : List ℕ) → HaveNoErrors p reach → AllLeftOutAlike live back (stretches p q [] reach) → AllAgree live (stretches p q [] reach) → AllAgree back (stretches q p [] reach)
  stretches_turned reach none e h =
      let listed = listed_stretches p q 0 (max (length p.units) (length q.units)) in
      let rest = flat_map (λ unit. unit_stretches p q [] unit (result_at p.units unit) (result_at q.units unit)) reach in
      let a = alike_split live back listed rest e in
      let b = all_split live listed rest h in
      all_append back (listed_stretches q p 0 (max (length q.units) (length p.units)))
      (flat_map (λ unit. unit_stretches q p [] unit (result_at q.units unit) (result_at p.units unit)) reach)
      (subst (λ (m : ℕ). AllAgree back (listed_stretches q p 0 m)) (max_turned (length p.units) (length q.units)) (listed_turned 0 (max (length p.units) (length q.units)) a.0 b.0))
      (units_turned reach none a.1 b.1)

pub same_turned : (all back : List Placed) (old new : Program) (reach : List ℕ) → HaveNoErrors old reach → AllLeftOutAlike (live_in all old) (live_in back new) (stretches old new [] reach) →
    IsSame all old new [] reach → IsSame back new old [] reach
same_turned all back old new reach none e h = stretches_turned (live_in all old) (live_in back new) old new reach none e h
