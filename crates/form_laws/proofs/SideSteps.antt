-- Two sides of expansion, step by step: as long as what the first asks has the same answers on the second, both take the same steps.
use Rattle.std.proofs.Common.{◌≡◌, ℕ, ◌+◌, ◌-◌, List, [], ◌∷◌, ◌++◌, map, Bool, true, false, cond, Option, Some, None, Result, Ok, Err, refl, sym, ap, subst}
use Rattle.std.specs.Prelude.{nat_le}
use Rattle.scheme_model.specs.Identifiers.{Number}
use Rattle.scheme_model.specs.Ident.{Ident}
use Rattle.scheme_model.specs.Trees.{Tree, Trees, Tail}
use Rattle.scheme_model.specs.Measures.{tree_size}
use Rattle.scheme_model.specs.ExpansionFaults.{Named, named, Fault, fault_map, NoRule, NodeBudget, UseBudget, BadForm}
use Rattle.scheme_model.specs.Meaning.{Head, same_meaning}
use Rattle.scheme_model.specs.RulesShape.{Rules, rules_of, role_of, dots_of}
use Rattle.scheme_model.specs.Requirements.{LibraryName}
use Rattle.scheme_model.specs.Matching.{Chosen, matcher, first_match, compared}
use Rattle.scheme_model.specs.Building.{Built, build}
use Rattle.scheme_model.specs.Cores.{Target, LocalNumber, Binder, MacroUse}
use Rattle.scheme_model.specs.Steps.{Broken, Step, ◌>>=◌, done, fails}
use Rattle.scheme_model.specs.Order.{Here, Note, Compared, Pass, Transformer, WaitingUse, Instance, Asked, Meant, Headed, Alike, Library, Counted, Ops, head_of, target_of, counting, given, has_use, compared_asked, used, use_of, meet_waiting, meet_all, caught, is_rules, RulesParts, rules_parts, rules_at, max_nodes, fields_bound}
use Rattle.model_laws.proofs.FrameAsks.{AllOf}
use Rattle.scheme_model.proofs.MatchedLaws.{Agree, first_match_same}
use Rattle.form_laws.proofs.Sides.{Both, Results, Equal, LeftLike, AskedLike, second, Answer, Sides}

module _ {E A L S T : Type 0} (ops : Ops E A L S) (others : Ops E A L T) (fits : S → E → E → Type 0) (k : Sides ops others fits) where
  abbrev pub other : Ops E A L T
  other = second ops others fits

  -- ---- what both come to

  -- if all that was asked by the end has the same answers, so has what was asked before; the first's state is a later one; something is
  -- related to what it gives; and from a state near s the second comes to something related, near the first's
  pub record Comes {X Y : Type 0} (R : S → X → Y → Type 0) (s : S) (q : X × S) (g : T → Y × T) : Type 0 where
    pub back : k.same_so_far q.1 → k.same_so_far s
    pub after : k.later s q.1
    pub some : (y : Y) × R q.1 q.0 y
    pub same : (t : T) → k.near s t → k.same_so_far q.1 → R q.1 q.0 (g t).0 × k.near q.1 (g t).1

  abbrev pub Goes : {V W : Type 0} → (S → V → W → Type 0) → S → Result V Broken × S → Step T W → Type 0
  Goes G s q g = Comes (λ u. Results (G u)) s q g

  -- both give the same value
  abbrev pub Same : {V : Type 0} → S → Result V Broken × S → Step T V → Type 0
  Same {V} s q g = Goes {V = V} {W = V} (λ u. Equal) s q g

  -- the second goes on from another state, with something that isn't the first's
  pub comes_into : {X Y Z : Type 0} {R : S → X → Y → Type 0} (s u : S) {q : X × S} (g0 : T → Y × T) (F : Z → Type 0) (z0 : Z) → F z0 → (g : Z → T → Y × T) → (k.same_so_far u → k.same_so_far s) → k.later s u
      → ((z : Z) → F z → Comes R u q (g z)) → ((t : T) → k.near s t → k.same_so_far u → (z : Z) × F z × (v : T) × k.near u v × (g0 t ≡ g z v)) → Comes R s q g0
  comes_into {X} {Y} {Z} {R} s u {q} g0 F z0 f0 g back after law find =
      let one = law z0 f0 in
      record {
        back = λ a. back (one.back a);
        after = k.then_ s u q.1 after one.after;
        some = one.some;
        same = λ t n a. let y = find t n (one.back a) in subst (λ (w : Y × T). R q.1 q.0 w.0 × k.near q.1 w.1) (sym y.4) ((law y.0 y.1).same y.2 y.3 a);
      }

  -- the second goes on from another state
  pub comes_after : {X Y : Type 0} {R : S → X → Y → Type 0} (s u : S) {q : X × S} (g : T → Y × T) (h : T → T) → (k.same_so_far u → k.same_so_far s) → k.later s u → ((t : T) → k.near s t → k.near u (h t)) → Comes R u q g → Comes R s q (λ t. g (h t))
  comes_after s u {q} g h back after near law = record { back = λ a. back (law.back a); after = k.then_ s u q.1 after law.after; some = law.some; same = λ t n a. law.same (h t) (near t n) a }

  -- what the second reads is what the first does
  pub comes_read : {X Y : Type 0} {R : S → X → Y → Type 0} (s : S) {q : X × S} (g g2 : T → Y × T) → ((t : T) → k.near s t → g t ≡ g2 t) → Comes R s q g2 → Comes R s q g
  comes_read {X} {Y} {R} s {q} g g2 e law = record { back = law.back; after = law.after; some = law.some; same = λ t n a. subst (λ (w : Y × T). R q.1 q.0 w.0 × k.near q.1 w.1) (sym (e t n)) (law.same t n a) }

  abbrev pub AskAlike : S → List (Asked E A) → List (Asked E A) → Type 0
  AskAlike s qs rs = Both (AskedLike (k.ruled s) (fits s)) qs rs

  -- once it was asked, and the second has asked alike
  pub comes_asking : {X Y : Type 0} {R : S → X → Y → Type 0} (s : S) (qs : List (Asked E A)) {q : X × S} (g g2 : T → Y × T)
      → ((t : T) → k.near s t → AllOf (Answer ops others fits s t) qs → (rs : List (Asked E A)) × AskAlike s qs rs × (g t ≡ g2 (others.ask rs t))) → Comes R (ops.ask qs s) q g2 → Comes R s q g
  comes_asking {X} {Y} {R} s qs {q} g g2 find law = record {
    back = λ a. k.ask_back s qs (law.back a);
    after = k.then_ s (ops.ask qs s) q.1 (k.ask_later s qs) law.after;
    some = law.some;
    same = λ t n a. let x = find t n (k.answered s t n qs (law.back a)) in
        subst (λ (w : Y × T). R q.1 q.0 w.0 × k.near q.1 w.1) (sym x.2) (law.same (others.ask x.0 t) (k.ask_near s t n qs x.0 x.1) a);
  }

  -- and it has asked this
  pub comes_asked : {X Y : Type 0} {R : S → X → Y → Type 0} (s : S) (qs rs : List (Asked E A)) → AskAlike s qs rs → {q : X × S} (g g2 : T → Y × T)
      → ((t : T) → k.near s t → AllOf (Answer ops others fits s t) qs → g t ≡ g2 (others.ask rs t)) → Comes R (ops.ask qs s) q g2 → Comes R s q g
  comes_asked s qs rs l g g2 e law = comes_asking s qs g g2 (λ t n a. (rs, l, e t n a)) law

  -- what several identifiers mean
  pub meant_alike : {X : Type 0} (name_of : X → A) (s : S) (e f : E) → fits s e f → (xs : List X) → AskAlike s (map (λ (x : X). Meant e (name_of x)) xs) (map (λ (x : X). Meant f (name_of x)) xs)
  meant_alike name_of s e f h [] = tt
  meant_alike name_of s e f h (x ∷ xs) = ((f, h, refl), meant_alike name_of s e f h xs)

  -- the same libraries
  pub libraries_alike : (s : S) (ns : List LibraryName) → AskAlike s (map (λ (n : LibraryName). Library n) ns) (map (λ (n : LibraryName). Library n) ns)
  libraries_alike s [] = tt
  libraries_alike s (n ∷ ns) = (refl, libraries_alike s ns)

  pub asked_fits : (s : S) (qs : List (Asked E A)) (e f : E) → fits s e f → fits (ops.ask qs s) e f
  asked_fits s qs e f h = k.fits_later s (ops.ask qs s) (k.ask_later s qs) e f h

  -- ---- steps

  pub goes_done : {V W : Type 0} {G : S → V → W → Type 0} (s : S) (v : V) (w : W) → G s v w → Goes G s (done v s) (done w)
  goes_done s v w h = record { back = λ a. a; after = k.itself s; some = (Ok w, h); same = λ t n a. (h, n) }

  pub goes_same : {V : Type 0} (s : S) (v : V) → Same {V = V} s (done v s) (done v)
  goes_same s v = goes_done s v v refl

  pub goes_fails : {V W : Type 0} {G : S → V → W → Type 0} (here : Here) (e : Fault Ident) (s : S) → Goes G s (fails here e s) (fails here e)
  goes_fails here e s = record { back = λ a. a; after = k.itself s; some = (Err (record { fault = e; here = here }), refl); same = λ t n a. (refl, n) }

  module _ {V W Y Z : Type 0} (G : S → V → W → Type 0) (H : S → Y → Z → Type 0) (f : V → Step S Y) (f' : W → Step T Z) where
    abbrev Next : S → Type 0
    Next s = (v : V) (u : S) (w : W) → k.later s u → G u v w → Goes H u (f v u) (f' w)

    next_same : (s : S) (v : V) (u : S) → k.later s u → Next s → (r : Result W Broken) (t : T) → Results (G u) (Ok v) r → k.near u t → k.same_so_far (f v u).1 → Results (H (f v u).1) (f v u).0 ((r, t) >>= f').0 × k.near (f v u).1 ((r, t) >>= f').1
    next_same s v u a next (Ok w) t h n b = (next v u w a h).same t n b
    next_same s v u a next (Err y) t h n b = absurd h

    ok_goes : (s : S) (v : V) (u : S) (g : Step T W) → Goes G s (Ok v, u) g → Next s → (r : Result W Broken) → Results (G u) (Ok v) r → Goes H s (f v u) (λ t. g t >>= f')
    ok_goes s v u g law next (Ok w) h =
        let n = next v u w law.after h in
        record {
          back = λ a. law.back (n.back a);
          after = k.then_ s u (f v u).1 law.after n.after;
          some = n.some;
          same = λ t z a. let x = law.same t z (n.back a) in next_same s v u law.after next (g t).0 (g t).1 x.0 x.1 a;
        }
    ok_goes s v u g law next (Err y) h = absurd h

    err_same : (x : Broken) (u : S) (r : Result W Broken) (t : T) → Results (G u) (Err x) r → k.near u t → Results (H u) (Err x) ((r, t) >>= f').0 × k.near u ((r, t) >>= f').1
    err_same x u (Ok w) t h n = absurd h
    err_same x u (Err y) t h n = (h, n)

    bind_from : (s : S) (r : Result V Broken) (u : S) (g : Step T W) → Goes G s (r, u) g → Next s → Goes H s ((r, u) >>= f) (λ t. g t >>= f')
    bind_from s (Ok v) u g law next = ok_goes s v u g law next law.some.0 law.some.1
    bind_from s (Err x) u g law next = record { back = law.back; after = law.after; some = (Err x, refl); same = λ t z a. let y = law.same t z a in err_same x u (g t).0 (g t).1 y.0 y.1 }

  -- a step whose values are related
  pub bind_like : {V W Y Z : Type 0} {G : S → V → W → Type 0} {H : S → Y → Z → Type 0} (s : S) {q : Result V Broken × S} {g : Step T W} (f : V → Step S Y) (f' : W → Step T Z)
      → Goes G s q g → ((v : V) (u : S) (w : W) → k.later s u → G u v w → Goes H u (f v u) (f' w)) → Goes H s (q >>= f) (λ t. g t >>= f')
  bind_like {G = G} {H = H} s {q} {g} f f' law next = bind_from G H f f' s q.0 q.1 g law next

  -- a step to the same value
  pub bind_same : {V Y Z : Type 0} {H : S → Y → Z → Type 0} (s : S) {q : Result V Broken × S} {g : Step T V} (f : V → Step S Y) (f' : V → Step T Z)
      → Same {V = V} s q g → ((v : V) (u : S) → k.later s u → Goes H u (f v u) (f' v)) → Goes H s (q >>= f) (λ t. g t >>= f')
  bind_same {V} {H = H} s f f' law next = bind_like {G = λ u. Equal} {H = H} s f f' law (λ v u w a e. subst (λ (z : V). Goes H u (f v u) (f' z)) (sym e) (next v u a))

  pub counting_goes : (here : Here) (n : ℕ) (s : S) → Same {V = Unit {0}} s (counting ops here n s) (counting other here n)
  counting_goes here n s =
      comes_read s (counting other here n) (λ t. cond (nat_le ((ops.counted s).nodes + n) max_nodes) (done tt (others.spend n t)) (fails here NodeBudget t))
      (λ t h. ap (λ (c : Counted). cond (nat_le (c.nodes + n) max_nodes) (done tt (others.spend n t)) (fails here NodeBudget t)) (k.counts s t h)) (go (nat_le ((ops.counted s).nodes + n) max_nodes))
    where
      go : (b : Bool) → Same {V = Unit {0}} s (cond b (done tt (ops.spend n s)) (fails here NodeBudget s)) (λ t. cond b (done tt (others.spend n t)) (fails here NodeBudget t))
      go true = record { back = k.spend_back s n; after = k.spend_later s n; some = (Ok tt, refl); same = λ t h a. (refl, k.spend_near s t h n) }
      go false = goes_fails here NodeBudget s

  pub given_goes : {V : Type 0} (here : Here) (r : Result V (Fault A)) (s : S) → Same {V = V} s (given ops.plain here r s) (given ops.plain here r)
  given_goes here (Ok v) s = goes_same s v
  given_goes here (Err e) s = goes_fails here (fault_map ops.plain e) s

  -- ---- macro uses

  targets_same : (s : S) (t : T) (e f : E) → fits s e f → (ns : List (Named A)) → AllOf (Answer ops others fits s t) (map (λ n. Meant e n.name) ns) → map (λ (n : Named A). target_of other f t n.name n.occ) ns ≡ map (λ (n : Named A). target_of ops e s n.name n.occ) ns
  targets_same s t e f h [] a = refl
  targets_same s t e f h (n ∷ ns) a =
      let p = a.0 f h in let q = targets_same s t e f h ns a.1 in
      λ j. record { meaning = p j; ident = ops.plain n.name; occ = n.occ } ∷ q j

  -- a use is met, and then it goes on
  pub meet_goes : {X Y : Type 0} {R : S → X → Y → Type 0} (e f : E) (w : WaitingUse A) (s : S) {q : X × S} (g : T → Y × T) → fits s e f → Comes R (meet_waiting ops e w s) q g → Comes R s q (λ t. g (meet_waiting other f w t))
  meet_goes e f w s g h law =
      let qs : List (Asked E A) = map (λ (n : Named A). Meant e n.name) w.literals in
      let rs : List (Asked E A) = map (λ (n : Named A). Meant f n.name) w.literals in
      let u : MacroUse = record { keyword = w.keyword; literals = map (λ (n : Named A). target_of ops e s n.name n.occ) w.literals } in
      comes_asked s qs rs (meant_alike (λ (n : Named A). n.name) s e f h w.literals) (λ t. g (meet_waiting other f w t)) (λ t. g (others.meet_use u t))
      (λ t n a. ap (λ (ls : List Target). g (others.meet_use (record { keyword = w.keyword; literals = ls }) (others.ask rs t))) (targets_same s t e f h w.literals a))
      (comes_after (ops.ask qs s) (ops.meet_use u (ops.ask qs s)) g (others.meet_use u) (k.meet_use_back (ops.ask qs s) u) (k.meet_use_later (ops.ask qs s) u) (λ t n. k.meet_use_near (ops.ask qs s) t n u) law)

  pub meet_later : (e : E) (w : WaitingUse A) (s : S) → k.later s (meet_waiting ops e w s)
  meet_later e w s =
      let qs : List (Asked E A) = map (λ (n : Named A). Meant e n.name) w.literals in
      k.then_ s (ops.ask qs s) (meet_waiting ops e w s) (k.ask_later s qs) (k.meet_use_later (ops.ask qs s) (record { keyword = w.keyword; literals = map (λ (n : Named A). target_of ops e s n.name n.occ) w.literals }))

  pub meet_all_later : (e : E) (ws : List (WaitingUse A)) (s : S) → k.later s (meet_all ops e ws s)
  meet_all_later e [] s = k.itself s
  meet_all_later e (w ∷ ws) s = k.then_ s (meet_waiting ops e w s) (meet_all ops e ws (meet_waiting ops e w s)) (meet_later e w s) (meet_all_later e ws (meet_waiting ops e w s))

  pub meet_all_goes : {X Y : Type 0} {R : S → X → Y → Type 0} (e f : E) (ws : List (WaitingUse A)) (s : S) {q : X × S} (g : T → Y × T) → fits s e f → Comes R (meet_all ops e ws s) q g → Comes R s q (λ t. g (meet_all other f ws t))
  meet_all_goes e f [] s g h law = law
  meet_all_goes e f (w ∷ ws) s g h law =
      let u = meet_waiting ops e w s in meet_goes e f w s (λ t. g (meet_all other f ws t)) h (meet_all_goes e f ws u g (k.fits_later s u (meet_later e w s) e f h) law)

  module _ (here : Here) (e f : E) (x : Target) where
    instance_goes : (s : S) (c : Chosen A A) (r : Result (Built (Tree A)) (Fault A))
        → Same {V = Instance A} s (given ops.plain here r s >>= λ b u. done (record { tree = b.value; met = record { keyword = x; literals = c.match.met } }) (ops.spend b.count u))
        (λ t. given ops.plain here r t >>= λ b u. done (record { tree = b.value; met = record { keyword = x; literals = c.match.met } }) (others.spend b.count u))
    instance_goes s c (Ok b) = record { back = k.spend_back s b.count; after = k.spend_later s b.count; some = (Ok (record { tree = b.value; met = record { keyword = x; literals = c.match.met } }), refl); same = λ t n a. (refl, k.spend_near s t n b.count) }
    instance_goes s c (Err y) = goes_fails here (fault_map ops.plain y) s

    used_goes : (s : S) (d g : E) (r : Rules A) (n : Number) (o : Option (Chosen A A)) → Same {V = Instance A} s (used ops here x (record { env = d; rules = r }) n o s) (used other here x (record { env = g; rules = r }) n o)
    used_goes s d g r n None = goes_fails here (NoRule (named x.ident x.occ)) s
    used_goes s d g r n (Some c) =
        comes_read s _ (λ t. given ops.plain here (build ops.names r (λ i. ops.insert i n) c.rule.template c.match.bindings (max_nodes - (ops.counted s).nodes)) t >>= λ b u. done (record { tree = b.value; met = record { keyword = x; literals = c.match.met } }) (others.spend b.count u))
        (λ t z. ap (λ (y : Counted). given ops.plain here (build ops.names r (λ i. ops.insert i n) c.rule.template c.match.bindings (max_nodes - y.nodes)) t >>= λ b u. done (record { tree = b.value; met = record { keyword = x; literals = c.match.met } }) (others.spend b.count u)) (k.counts s t z))
        (instance_goes s c (build ops.names r (λ i. ops.insert i n) c.rule.template c.match.bindings (max_nodes - (ops.counted s).nodes)))

    module _ (d g : E) (r : Rules A) (ts : Trees A) (tail : Tail A) (s : S) (h : fits s e f) (z : fits s d g) where
      abbrev pub pairs : List (A × A)
      pairs = compared (role_of ops.names r) (dots_of ops.names r) r.rules ts tail

      abbrev pub held : T → A → A → Bool
      held t l j = same_meaning (others.means g t l) (others.means f t j)

      abbrev pub held_first : A → A → Bool
      held_first l j = same_meaning (ops.means d s l) (ops.means e s j)

      abbrev macro : Transformer E A
      macro = record { env = d; rules = r }

      abbrev macro_there : Transformer E A
      macro_there = record { env = g; rules = r }

      abbrev pub questions : List (Asked E A)
      questions = compared_asked ops e macro ts tail

      abbrev pub questions_there : List (Asked E A)
      questions_there = compared_asked other f macro_there ts tail

      pub questions_alike : AskAlike s questions questions_there
      questions_alike = go pairs
        where
          go : (qs : List (A × A)) → AskAlike s (map (λ (q : A × A). Alike d q.0 e q.1) qs) (map (λ (q : A × A). Alike g q.0 f q.1) qs)
          go [] = tt
          go (q ∷ qs) = ((g, f, z, h, refl), go qs)

      agreed : (t : T) (qs : List (A × A)) → AllOf (Answer ops others fits s t) (map (λ (q : A × A). Alike d q.0 e q.1) qs) → Agree A A (held t) held_first qs
      agreed t [] a = tt
      agreed t (q ∷ qs) a = (a.0 g f z h, agreed t qs a.1)

      -- the second's use with what the first read, where the budget has one left
      abbrev pub use_begun : Step T (Instance A)
      use_begun t = used other here x macro_there (ops.next_use s) (first_match (matcher ops.names r held_first) r.rules ts tail) (others.begin_use g t)

      pub use_read : (t : T) → k.near s t → AllOf (Answer ops others fits s t) questions → used other here x macro_there (others.next_use t) (first_match (matcher ops.names r (held t)) r.rules ts tail) (others.begin_use g (others.ask questions_there t)) ≡ use_begun (others.ask questions_there t)
      use_read t n a =
          let u = k.next_use s t n in let m = first_match_same A A (role_of ops.names r) (dots_of ops.names r) (held t) held_first r.rules ts tail (agreed t pairs a) in
          λ j. used other here x macro_there (u j) (m j) (others.begin_use g (others.ask questions_there t))

      pub use_from : Same {V = Instance A} (ops.ask questions s) (used ops here x macro (ops.next_use s) (first_match (matcher ops.names r held_first) r.rules ts tail) (ops.begin_use d (ops.ask questions s))) use_begun
      use_from =
          let u = ops.ask questions s in
          comes_after u (ops.begin_use d u) (used other here x macro_there (ops.next_use s) (first_match (matcher ops.names r held_first) r.rules ts tail)) (others.begin_use g)
          (k.begin_back u d) (k.begin_later u d g (asked_fits s questions d g z)) (λ t n. k.begin_near u t n d g (asked_fits s questions d g z))
          (used_goes (ops.begin_use d u) d g r (ops.next_use s) (first_match (matcher ops.names r held_first) r.rules ts tail))

      pub use_goes : Same {V = Instance A} s (use_of ops here e x macro ts tail s) (use_of other here f x macro_there ts tail)
      use_goes =
          comes_read s (use_of other here f x macro_there ts tail) (λ t. cond (has_use ops s) (used other here x macro_there (others.next_use t) (first_match (matcher ops.names r (held t)) r.rules ts tail) (others.begin_use g (others.ask questions_there t))) (fails here UseBudget t))
          (λ t n. ap (λ b. cond b (used other here x macro_there (others.next_use t) (first_match (matcher ops.names r (held t)) r.rules ts tail) (others.begin_use g (others.ask questions_there t))) (fails here UseBudget t)) (budget_same t n)) (go (has_use ops s))
        where
          budget_same : (t : T) → k.near s t → has_use other t ≡ has_use ops s
          budget_same t n = ap (λ (c : Counted). has_use (record ops { counted = λ u. c }) s) (k.counts s t n)

          go : (b : Bool) → Same {V = Instance A} s (cond b (used ops here x macro (ops.next_use s) (first_match (matcher ops.names r held_first) r.rules ts tail) (ops.begin_use d (ops.ask questions s))) (fails here UseBudget s))
              (λ t. cond b (used other here x macro_there (others.next_use t) (first_match (matcher ops.names r (held t)) r.rules ts tail) (others.begin_use g (others.ask questions_there t))) (fails here UseBudget t))
          go true = comes_asked s questions questions_there questions_alike _ use_begun use_read use_from
          go false = goes_fails here UseBudget s

      -- the second's notes of what is compared, with what the first found
      abbrev noted_there : A × A → Note L
      noted_there q = Compared (others.place g q.0) (others.place f q.1) (held_first q.0 q.1)

      abbrev pub compared_there : List (Note L)
      compared_there = map noted_there pairs

      pub compared_read : (t : T) → AllOf (Answer ops others fits s t) questions → map (λ (q : A × A). Compared (others.place g q.0) (others.place f q.1) (held t q.0 q.1)) pairs ≡ compared_there
      compared_read t a = go pairs a
        where
          go : (qs : List (A × A)) → AllOf (Answer ops others fits s t) (map (λ (q : A × A). Alike d q.0 e q.1) qs) → map (λ (q : A × A). Compared (others.place g q.0) (others.place f q.1) (held t q.0 q.1)) qs ≡ map noted_there qs
          go [] b = refl
          go (q ∷ qs) b = let p = b.0 g f z h in let w = go qs b.1 in λ j. Compared (others.place g q.0) (others.place f q.1) (p j) ∷ w j

      pub compared_noted : (o : E) (ns ms : List (Note L)) → k.notes s o ns ms → k.notes s o (map (λ (q : A × A). Compared (ops.place d q.0) (ops.place e q.1) (held_first q.0 q.1)) pairs ++ ns) (compared_there ++ ms)
      compared_noted o ns ms l = go pairs
        where
          go : (qs : List (A × A)) → k.notes s o (map (λ (q : A × A). Compared (ops.place d q.0) (ops.place e q.1) (held_first q.0 q.1)) qs ++ ns) (map noted_there qs ++ ms)
          go [] = l
          go (q ∷ qs) = k.more_notes s o _ _ (go qs) (Compared (ops.place d q.0) (ops.place e q.1) (held_first q.0 q.1)) (noted_there q) (k.placed s d g z q.0, k.placed s e f h q.1, refl)

  -- ---- rules

  module _ (here : Here) (e f : E) where
    abbrev pub parts_there : Head → RulesParts A → Step T (RulesParts A)
    parts_there c r t = cond (is_rules c) (done r t) (fails here BadForm t)

    pub parts_from : (r : RulesParts A) (s : S) → Same {V = RulesParts A} (ops.ask (Headed e r.head ∷ []) s) (rules_parts ops here e (Some r) s) (parts_there (head_of ops e s r.head) r)
    parts_from r s = go (is_rules (head_of ops e s r.head))
      where
        go : (b : Bool) → Same {V = RulesParts A} (ops.ask (Headed e r.head ∷ []) s) (cond b (done r (ops.ask (Headed e r.head ∷ []) s)) (fails here BadForm (ops.ask (Headed e r.head ∷ []) s))) (λ t. cond b (done r t) (fails here BadForm t))
        go true = goes_same (ops.ask (Headed e r.head ∷ []) s) r
        go false = goes_fails here BadForm (ops.ask (Headed e r.head ∷ []) s)

    pub parts_goes : (o : Option (RulesParts A)) (s : S) → fits s e f → Same {V = RulesParts A} s (rules_parts ops here e o s) (rules_parts other here f o)
    parts_goes None s h = goes_fails here BadForm s
    parts_goes (Some r) s h =
        comes_asked s (Headed e r.head ∷ []) (Headed f r.head ∷ []) ((f, h, refl), tt) (rules_parts other here f (Some r)) (parts_there (head_of ops e s r.head) r)
        (λ t n a. ap (λ c. parts_there c r (others.ask (Headed f r.head ∷ []) t)) (a.0 f h).1) (parts_from r s)

  pub rules_goes : (here : Here) (t : Tree A) (r : RulesParts A) (s : S) → Same {V = Rules A} s (rules_at ops here t r s) (rules_at other here t r)
  rules_goes here t r s = bind_same s (λ u. given ops.plain here (rules_of ops.names r.parts r.tail)) (λ u. given ops.plain here (rules_of ops.names r.parts r.tail)) (counting_goes here (tree_size t) s) (λ u v a. given_goes here (rules_of ops.names r.parts r.tail) v)

  -- ---- fields

  pub fields_goes : (ns : List (Named A)) (s : S) → Same {V = List Binder} s (fields_bound ops ns s) (fields_bound other ns)
  fields_goes [] s = goes_same s []
  fields_goes (n ∷ ns) s =
      comes_read s (fields_bound other (n ∷ ns)) (λ t. fields_bound other ns (others.take_local t) >>= λ bs. done (record { bound = LocalNumber (ops.next_local s); ident = ops.plain n.name; occ = n.occ } ∷ bs))
      (λ t z. ap (λ v. fields_bound other ns (others.take_local t) >>= λ bs. done (record { bound = LocalNumber v; ident = ops.plain n.name; occ = n.occ } ∷ bs)) (k.next_local s t z))
      (comes_after s (ops.take_local s) (λ t. fields_bound other ns t >>= λ bs. done (record { bound = LocalNumber (ops.next_local s); ident = ops.plain n.name; occ = n.occ } ∷ bs)) others.take_local (k.take_back s) (k.take_later s) (λ t z. k.take_near s t z)
      (bind_same (ops.take_local s) _ _ (fields_goes ns (ops.take_local s)) (λ bs u a. goes_same u (record { bound = LocalNumber (ops.next_local s); ident = ops.plain n.name; occ = n.occ } ∷ bs))))

  -- ---- passes

  -- what a pass came to
  pub record PassLike (e : E) (u : S) (x y : Pass A L) : Type 0 where
    pub notes : k.notes u e x.notes y.notes
    pub left : Results (LeftLike (k.bounds e)) x.left y.left

  abbrev pub Runs : E → S → Pass A L × S → (T → Pass A L × T) → Type 0
  Runs e s x g = Comes (PassLike e) s x g

  module _ {V W : Type 0} (G : S → V → W → Type 0) (e : E) (s : S) (ns ms : List (Note L)) (l : k.notes s e ns ms) (f : V → S → Pass A L × S) (f' : W → T → Pass A L × T) where
    abbrev NextRuns : Type 0
    NextRuns = (v : V) (u : S) (w : W) → k.later s u → G u v w → Runs e u (f v u) (f' w)

    caught_next : (v : V) (u : S) → k.later s u → NextRuns → (r : Result W Broken) (t : T) → Results (G u) (Ok v) r → k.near u t → k.same_so_far (f v u).1 → PassLike e (f v u).1 (f v u).0 (caught ms (r, t) f').0 × k.near (f v u).1 (caught ms (r, t) f').1
    caught_next v u a next (Ok w) t h n b = (next v u w a h).same t n b
    caught_next v u a next (Err y) t h n b = absurd h

    caught_ok : (v : V) (u : S) (g : Step T W) → Goes G s (Ok v, u) g → NextRuns → (r : Result W Broken) → Results (G u) (Ok v) r → Runs e s (f v u) (λ t. caught ms (g t) f')
    caught_ok v u g law next (Ok w) h =
        let n = next v u w law.after h in
        record {
          back = λ a. law.back (n.back a);
          after = k.then_ s u (f v u).1 law.after n.after;
          some = n.some;
          same = λ t z a. let x = law.same t z (n.back a) in caught_next v u law.after next (g t).0 (g t).1 x.0 x.1 a;
        }
    caught_ok v u g law next (Err y) h = absurd h

    caught_err : (x : Broken) (u : S) → k.later s u → (r : Result W Broken) (t : T) → Results (G u) (Err x) r → k.near u t → PassLike e u (record { notes = ns; left = Err x }) (caught ms (r, t) f').0 × k.near u (caught ms (r, t) f').1
    caught_err x u a (Ok w) t h n = absurd h
    caught_err x u a (Err y) t h n = (record { notes = k.notes_later s u a e ns ms l; left = h }, n)

    caught_from : (r : Result V Broken) (u : S) (g : Step T W) → Goes G s (r, u) g → NextRuns → Runs e s (caught ns (r, u) f) (λ t. caught ms (g t) f')
    caught_from (Ok v) u g law next = caught_ok v u g law next law.some.0 law.some.1
    caught_from (Err x) u g law next = record {
      back = law.back;
      after = law.after;
      some = (record { notes = ms; left = Err x }, record { notes = k.notes_later s u law.after e ns ms l; left = refl });
      same = λ t z a. let y = law.same t z a in caught_err x u law.after (g t).0 (g t).1 y.0 y.1;
    }

  pub caught_like : {V W : Type 0} {G : S → V → W → Type 0} (e : E) (ns ms : List (Note L)) (f : V → S → Pass A L × S) (f' : W → T → Pass A L × T) (s : S) → k.notes s e ns ms → {q : Result V Broken × S} {g : Step T W} → Goes G s q g
      → ((v : V) (u : S) (w : W) → k.later s u → G u v w → Runs e u (f v u) (f' w)) → Runs e s (caught ns q f) (λ t. caught ms (g t) f')
  caught_like {G = G} e ns ms f f' s l {q} {g} law next = caught_from G e s ns ms l f f' q.0 q.1 g law next

  pub caught_same : {V : Type 0} (e : E) (ns ms : List (Note L)) (f : V → S → Pass A L × S) (f' : V → T → Pass A L × T) (s : S) → k.notes s e ns ms → {q : Result V Broken × S} {g : Step T V} → Same {V = V} s q g
      → ((v : V) (u : S) → k.later s u → Runs e u (f v u) (f' v)) → Runs e s (caught ns q f) (λ t. caught ms (g t) f')
  caught_same {V} e ns ms f f' s l law next = caught_like {G = λ u. Equal} e ns ms f f' s l law (λ v u w a d. subst (λ (z : V). Runs e u (f v u) (f' z)) (sym d) (next v u a))
