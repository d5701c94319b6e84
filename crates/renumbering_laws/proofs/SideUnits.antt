-- The forms of a unit on both sides: what they set aside, what each comes to, and where work ends.
use Rattle.std.proofs.Common.{◌≡◌, ℕ, ◌+◌, List, [], ◌∷◌, map, Bool, true, false, cond, Option, Some, None, Result, Ok, Err, refl, sym, ap, subst}
use Rattle.std.specs.Prelude.{nat_lt}
use Rattle.scheme_model.specs.Trees.{Tree}
use Rattle.scheme_model.specs.RulesShape.{option_map}
use Rattle.scheme_model.specs.Cores.{Parts, Part}
use Rattle.scheme_model.specs.Steps.{Broken}
use Rattle.scheme_model.specs.Order.{Item, Left, Note, Pass}
use Rattle.scheme_model.specs.Expression.{expand, item_part}
use Rattle.scheme_model.specs.Substitution.{note_map}
use Rattle.scheme_model.specs.UnitExpansion.{Formed, max_depth, Work, ◌then◌, max_total, nodes_in, unless_over, LeftOf, one_form, passes, with_part, before_parts, items_parts, form_parts, finished, unit}
use Rattle.scheme_model.proofs.RenamingLaws.{map_turned}
use Rattle.renumbering_laws.specs.Renumbering.{Renumbering, result_as, part_as, parts_as, left_as, item_as, formed_as, numbered_as, left_of_as, pass_as}
use Rattle.renumbering_laws.proofs.Sides.{Sides}
use Rattle.renumbering_laws.proofs.SideSteps.{Goes, goes}
use Rattle.renumbering_laws.proofs.SideUses.{all_met}
use Rattle.renumbering_laws.proofs.SideForms.{Ran, ran}
use Rattle.renumbering_laws.proofs.SideRuns.{run_goes}
use Rattle.renumbering_laws.proofs.SideExpressions.{item_goes, expand_goes}

module _ (h : Sides) where
  abbrev r : Renumbering
  r = h.r

  -- a form's number in the unit at work
  abbrev pub form_two : ℕ → ℕ
  form_two f = h.r.form h.unit f

  abbrev pub forms_two : List (ℕ × Tree h.A) → List (ℕ × Tree h.A')
  forms_two ts = map (numbered_as r h.unit h.on) ts

  abbrev left_two : LeftOf h.A → LeftOf h.A'
  left_two x = left_of_as r h.unit h.on x

  abbrev pub formed_two : Formed → Formed
  formed_two x = formed_as r h.unit x

  -- states between forms: whichever form work turns to, they correspond
  abbrev pub Idle : h.S → h.S' → Type 0
  Idle s s' = (f : ℕ) → h.state (h.one.turn f s) (h.two.turn (form_two f) s')

  pub rests : (s : h.S) (s' : h.S') → h.state s s' → Idle s s'
  rests s s' l f = h.turn f s s' l

  -- ---- work

  -- what comes of work, where it didn't end, and its state
  pub data Works {V W : Type 0} (R : h.S → h.S' → Type 0) (g : V → W) (q : Option V × h.S) (q' : Option W × h.S') : Type 0 where
    works : q'.0 ≡ option_map g q.0 → R q.1 q'.1 → Works R g q q'

  works_at : {V W : Type 0} {R : h.S → h.S' → Type 0} {g : V → W} {q : Option V × h.S} {q' q2 : Option W × h.S'} → q2 ≡ q' → Works R g q q' → Works R g q q2
  works_at {R = R} {g = g} {q = q} d x = subst (λ z. Works R g q z) (sym d) x

  then_from : {V W X Y : Type 0} (R Q : h.S → h.S' → Type 0) → ((u : h.S) (u' : h.S') → R u u' → Q u u') → (g : V → W) (f : X → Y) (x : Option V) (t : h.S) (t' : h.S') (k : V → Work h.S X) (k' : W → Work h.S' Y) → R t t'
      → ((v : V) (u : h.S) (u' : h.S') → R u u' → Works Q f (k v u) (k' (g v) u')) → Works Q f ((x, t) then k) ((option_map g x, t') then k')
  then_from R Q weaker g f (Some v) t t' k k' m next = next v t t' m
  then_from R Q weaker g f None t t' k k' m next = works refl (weaker t t' m)

  works_then : {V W X Y : Type 0} (R Q : h.S → h.S' → Type 0) → ((u : h.S) (u' : h.S') → R u u' → Q u u') → {g : V → W} {f : X → Y} {q : Option V × h.S} {q' : Option W × h.S'} (k : V → Work h.S X) (k' : W → Work h.S' Y)
      → Works R g q q' → ((v : V) (u : h.S) (u' : h.S') → R u u' → Works Q f (k v u) (k' (g v) u')) → Works Q f (q then k) (q' then k')
  works_then R Q weaker {g = g} {f = f} {q = q} {q' = q'} k k' (works e m) next = works_at (ap (λ z. (z, q'.1) then k') e) (then_from R Q weaker g f q.0 q.1 q'.1 k k' m next)

  same_state : (u : h.S) (u' : h.S') → h.state u u' → h.state u u'
  same_state u u' m = m

  same_idle : (u : h.S) (u' : h.S') → Idle u u' → Idle u u'
  same_idle u u' m = m

  -- ---- where work ends

  nodes_same : (fs : List ℕ) (s : h.S) (s' : h.S') → Idle s s' → nodes_in h.two (map form_two fs) s' ≡ nodes_in h.one fs s
  nodes_same [] s s' l = refl
  nodes_same (f ∷ fs) s s' l = let a = h.counted _ _ (l f) in let b = nodes_same fs s s' l in λ j. (a j).nodes + b j

  unless_goes : {V W : Type 0} (g : V → W) (fs : List ℕ) (q : V × h.S) (q' : W × h.S') → q'.0 ≡ g q.0 → h.state q.1 q'.1 → Works h.state g (unless_over h.one fs q) (unless_over h.two (map form_two fs) q')
  unless_goes g fs q q' e l =
      works_at (let n = nodes_same fs q.1 q'.1 (rests q.1 q'.1 l) in λ j. cond (nat_lt max_total (n j)) (None, q'.1) (Some (e j), q'.1)) (go (nat_lt max_total (nodes_in h.one fs q.1)))
    where
      go : (t : Bool) → Works h.state g (cond t (None, q.1) (Some q.0, q.1)) (cond t (None, q'.1) (Some (g q.0), q'.1))
      go true = works refl l
      go false = works refl l

  module _ (e : h.E) (e' : h.E') (k : h.around e e') (turns : ℕ) (fs : List ℕ) where
    abbrev fs' : List ℕ
    fs' = map form_two fs

    -- ---- gone through

    run_over : {q : Pass h.A h.L × h.S} {q' : Pass h.A' h.L' × h.S'} → Ran h q q' → Works h.state (pass_as r h.on h.look) (unless_over h.one fs q) (unless_over h.two fs' q')
    run_over {q = q} {q' = q'} (ran d l) = unless_goes (pass_as r h.on h.look) fs q q' d l

    passes_goes : (ts : List (ℕ × Tree h.A)) (ns : List (Note h.L)) (s : h.S) (s' : h.S') → Idle s s' → Works Idle (map left_two) (passes h.one turns e fs ts ns s) (passes h.two turns e' fs' (forms_two ts) (map (note_map h.look) ns) s')
    passes_goes [] ns s s' l = works refl l
    passes_goes (t ∷ ts) ns s s' l =
        works_then h.state Idle rests {g = pass_as r h.on h.look} _ _ (run_over (run_goes h turns e e' k (one_form t.1 ns) (h.one.turn t.0 s) (h.two.turn (form_two t.0) s') (l t.0)))
        (λ q u u' m. works_then Idle Idle same_idle _ _ (passes_goes ts q.notes u u' (rests u u' m)) (λ rest v v' n. works refl n))

    -- ---- expanded

    with_part_same : (p : Part) (x : Result Parts Broken) → with_part (part_as r p) (result_as r (parts_as r) x) ≡ result_as r (parts_as r) (with_part p x)
    with_part_same p (Ok ps) = refl
    with_part_same p (Err x) = refl

    abbrev parts_two : Result Parts Broken → Result Parts Broken
    parts_two x = result_as r (parts_as r) x

    before_goes : (more : Work h.S (Result Parts Broken)) (more' : Work h.S' (Result Parts Broken)) → ((u : h.S) (u' : h.S') → h.state u u' → Works h.state parts_two (more u) (more' u'))
        → (x : Result Part Broken) (u : h.S) (u' : h.S') → h.state u u' → Works h.state parts_two (before_parts more x u) (before_parts more' (result_as r (part_as r) x) u')
    before_goes more more' law (Err x) u u' m = works refl m
    before_goes more more' law (Ok p) u u' m = works_then h.state h.state same_state _ _ (law u u' m) (λ x v v' n. works (ap Some (with_part_same p x)) n)

    items_goes : (is : List (Item h.A)) (s : h.S) (s' : h.S') → h.state s s'
        → Works h.state parts_two (items_parts h.one fs (item_part (expand h.one turns) h.one max_depth e) is s) (items_parts h.two fs' (item_part (expand h.two turns) h.two max_depth e') (map (item_as r h.on) is) s')
    items_goes [] s s' l = works refl l
    items_goes (i ∷ is) s s' l =
        let both = expand_goes h turns in
        works_then h.state h.state same_state _ _ (one_goes (item_goes h (expand h.one turns) (expand h.two turns) both.0 both.1 max_depth e e' k i s s' l)) (λ x u u' m. before_goes _ _ (λ v v' n. items_goes is v v' n) x u u' m)
      where
        one_goes : {q : Result Part Broken × h.S} {q' : Result Part Broken × h.S'} → Goes h (part_as r) q q' → Works h.state (result_as r (part_as r)) (unless_over h.one fs q) (unless_over h.two fs' q')
        one_goes {q = q} {q' = q'} (goes d m) = unless_goes (result_as r (part_as r)) fs q q' d m

    form_goes : (x : Result (Left h.A) Broken) (s : h.S) (s' : h.S') → h.state s s'
        → Works h.state parts_two (form_parts h.one (expand h.one turns) e fs x s) (form_parts h.two (expand h.two turns) e' fs' (result_as r (left_as r h.on) x) s')
    form_goes (Err x) s s' l = works refl l
    form_goes (Ok x) s s' l = items_goes x.items _ _ (all_met h e e' k x.uses s s' l)

    finished_goes : (xs : List (LeftOf h.A)) (s : h.S) (s' : h.S') → Idle s s' → Works Idle (map formed_two) (finished h.one (expand h.one turns) e fs xs s) (finished h.two (expand h.two turns) e' fs' (map left_two xs) s')
    finished_goes [] s s' l = works refl l
    finished_goes (x ∷ xs) s s' l =
        works_then h.state Idle rests _ _ (form_goes x.1 (h.one.turn x.0 s) (h.two.turn (form_two x.0) s') (l x.0))
        (λ parts u u' m. works_then Idle Idle same_idle _ _ (finished_goes xs u u' (rests u u' m))
        (λ rest v v' n. works (ap (λ c. Some (record { form = form_two x.0; result = parts_two parts; counted = c } ∷ map formed_two rest)) (h.counted u u' m)) n))

  -- ---- the whole unit

  numbers_two : (ts : List (ℕ × Tree h.A)) → map (λ (t : ℕ × Tree h.A'). t.0) (forms_two ts) ≡ map form_two (map (λ (t : ℕ × Tree h.A). t.0) ts)
  numbers_two ts = map_turned (λ (t : ℕ × Tree h.A'). t.0) (numbered_as r h.unit h.on) form_two (λ (t : ℕ × Tree h.A). t.0) (λ t. refl) ts

  pub unit_goes : (e : h.E) (e' : h.E') → h.around e e' → (turns : ℕ) (ts : List (ℕ × Tree h.A)) (s : h.S) (s' : h.S') → Idle s s' → Works Idle (map formed_two) (unit h.one turns e ts s) (unit h.two turns e' (forms_two ts) s')
  unit_goes e e' k turns ts s s' l =
      let fs = map (λ (t : ℕ × Tree h.A). t.0) ts in
      works_at (ap (λ gs. passes h.two turns e' gs (forms_two ts) [] s' then finished h.two (expand h.two turns) e' gs) (numbers_two ts))
      (works_then Idle Idle same_idle _ _ (passes_goes e e' k turns fs ts [] s s' l) (λ xs u u' m. finished_goes e e' k turns fs xs u u' m))
