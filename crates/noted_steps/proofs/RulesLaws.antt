-- The rules of macros while what is asked is noted: the test of their head, and the macros that a unit, a body or a form has made.
use Rattle.std.proofs.Common.{◌≡◌, ℕ, zero, suc, ◌+◌, ◌<◌, ◌≤◌, List, [], ◌∷◌, ◌++◌, map, length, drop, get_or, Bool, true, false, cond, Option, Some, None, Result, Ok, Err, refl, sym, ap, ◌∙◌, subst, arith}
use Rattle.scheme_model.specs.ExpansionFaults.{Named, BadForm}
use Rattle.scheme_model.specs.Cores.{LocalNumber, Binder, MacroDef, RuleLeaf}
use Rattle.scheme_model.specs.Expression.{macro_with, macro_def, leaves_asked, macro_asked, local_defs, locals_asked}
use Rattle.scheme_model.specs.Ident.{Ident as Identifier}
use Rattle.scheme_model.specs.Identifiers.{Number}
use Rattle.scheme_model.specs.Leaves.{Leaf, leaves_of}
use Rattle.scheme_model.specs.Order.{Here, Asked, Meant, RulesParts, Transformer, rules_parts, rules_note, is_rules, head_of}
use Rattle.scheme_model.specs.Requirements.{Known}
use Rattle.scheme_model.specs.Steps.{Broken, done, fails}
use Rattle.scheme_model.specs.ScopedExpansion.{Frames, ScopedState}
use Rattle.syntax_tree.specs.Macros.{identifiers}
use Rattle.syntax_tree.specs.declared.trees.Work.{Work}
use Rattle.syntax_tree.specs.declared.trees.table.Region.{Region}
use Rattle.core_tree.specs.Names.{AllMatch, IsLeaf, IsMacro}
use Rattle.core_tree.specs.declared.cores.MacroDef as code_def
use Rattle.core_tree.specs.declared.cores.RuleLeaf as code_leaf
use Rattle.core_tree.specs.Traces.{IsFault}
use Rattle.feature_requirements.specs.declared.fault.ExpandFault.{ExpandFault}
use Rattle.feature_requirements.specs.declared.fault.ExpandFault.TheVariants as fault
use Rattle.form_notes.specs.Noted.{Noted}
use Rattle.unit_scopes.specs.RulesTold.{Tests}
use Rattle.unit_scopes.specs.Searched.{searched}
use Rattle.unit_scopes.specs.declared.scope.UnitScope.{UnitScope}
use Rattle.unit_scopes.proofs.OutcomeLaws.{leaves_itself}
use Rattle.noted_steps.specs.Asked.{head_asked}
use Rattle.noted_steps.specs.Noting.{Noting, state_of, noting, note_of, noted_with}
use Rattle.noted_steps.specs.Outcomes.{Stays, EndsHere}
use Rattle.noted_steps.specs.Standing.{Stands, LeafFor, with_notes}
use Rattle.noted_steps.proofs.AskedLaws.{all_same}
use Rattle.noted_steps.proofs.OutcomeLaws.{noted_stays}

-- ---- the head of rules

-- the look-up of the head of rules is the one without notes
pub rules_noted : (known : Known) (fs : Frames) (s : Noting) (o : Option (RulesParts Identifier)) → rules_note (noting known) fs s o ≡ rules_note (searched known) fs (state_of s) o
rules_noted known fs s None = refl
rules_noted known fs s (Some r) = refl

abbrev Parts : Type 0
Parts = RulesParts Identifier

module _ (work : Work) (region : Region) (u v : UnitScope) (ls : List Frames) (here : Here) (s t : Noting) (few : u.form.budget.nodes ≤ 200000) (stays : Stays work work region u v ls t) where
  abbrev Tested : Option Parts → Unit {0} → Parts → Type 0
  Tested o done r = o ≡ Some r

  abbrev bad : Broken
  bad = record { fault = BadForm; here = here }

  abbrev no_parts : Result Parts Broken
  no_parts = Err bad

  abbrev fails_plain : Result Parts Broken × ScopedState
  fails_plain = fails here BadForm (state_of s)

  -- the fault of rules without a head
  none_fails : (o : Option Parts) (x : Result (Unit {0}) ExpandFault) → Tests work (state_of s) x fails_plain → EndsHere (Tested o) work work region u v ls x (fails {A = Parts} here BadForm t)
  none_fails o (Ok x) h =
      let value : no_parts ≡ Ok h.0 = ap (λ (p : Result Parts Broken × ScopedState). p.0) h.1 in
      absurd cc
  none_fails o (Err (fault.At e)) h =
      let value : no_parts ≡ Err h.0 = ap (λ (p : Result Parts Broken × ScopedState). p.0) h.1 in
      let same : bad ≡ h.0 = cc in
      (stays, (bad, refl, subst (IsFault work.symbols e) (sym same) h.2))
  none_fails o (Err fault.Full) h = absurd h
  none_fails o (Err fault.Memory) h = leaves_itself work region u few

  some_tested : (r : Parts) (q : Bool) (x : Result (Unit {0}) ExpandFault) → Tests work (state_of s) x (cond q (done r (state_of s)) fails_plain) → EndsHere (Tested (Some r)) work work region u v ls x (cond q (done r t) (fails here BadForm t))
  some_tested r false x h = none_fails (Some r) x h
  some_tested r true (Ok x) h = (r, stays, refl, refl)
  some_tested r true (Err (fault.At e)) h =
      let some : Result Parts Broken = Ok r in
      let value : some ≡ Err h.0 = ap (λ (p : Result Parts Broken × ScopedState). p.0) h.1 in
      absurd cc
  some_tested r true (Err fault.Full) h = absurd h
  some_tested r true (Err fault.Memory) h = leaves_itself work region u few

pub tested_ends : (known : Known) (work : Work) (region : Region) (u v : UnitScope) (ls : List Frames) (here : Here) (fs : Frames) (s : Noting) (o : Option Parts) (x : Result (Unit {0}) ExpandFault) → Stands work u ls s → v ≡ with_notes u v.form.trace.notes → Stands work v ls (head_asked known fs o s) →
    Tests work (state_of s) x (rules_parts (searched known) here fs o (state_of s)) → EndsHere (λ (done : Unit {0}) (r : Parts). o ≡ Some r) work work region u v ls x (rules_parts (noting known) here fs o s)
tested_ends known work region u v ls here fs s None x e same after h = none_fails work region u v ls here s s e.form.few_nodes (noted_stays work region u v ls s s e same after) None x h
tested_ends known work region u v ls here fs s (Some r) x e same after h =
    some_tested work region u v ls here s (head_asked known fs (Some r) s) e.form.few_nodes (noted_stays work region u v ls s (head_asked known fs (Some r) s) e same after) r (is_rules (head_of (noting known) fs s r.head)) x h

-- ---- macros with their leaves

module _ (known : Known) (s : Noting) where
  with_same : (b : Binder) (o : Option (Transformer Frames Identifier)) → macro_with (noting known) s b o ≡ macro_with (searched known) (state_of s) b o
  with_same b None = refl
  with_same b (Some m) = refl

  -- as without notes
  pub def_same : (b : Binder) → macro_def (noting known) s b ≡ macro_def (searched known) (state_of s) b
  def_same b = with_same b ((searched known).transformer (state_of s) _)

  with_again : (ms : List Noted) (b : Binder) (o : Option (Transformer Frames Identifier)) → macro_with (noting known) (record s { noted = ms }) b o ≡ macro_with (noting known) s b o
  with_again ms b None = refl
  with_again ms b (Some m) = refl

  -- whatever was noted
  pub def_again : (ms : List Noted) (b : Binder) → macro_def (noting known) (record s { noted = ms }) b ≡ macro_def (noting known) s b
  def_again ms b = with_again ms b ((noting known).transformer s _)

  pub binder_same : (b : Binder) (o : Option (Transformer Frames Identifier)) → (macro_with (noting known) s b o).binder ≡ b
  binder_same b None = refl
  binder_same b (Some m) = refl

  -- ---- their leaves

  abbrev leaf_names : List (Leaf Identifier) → List (Named Identifier)
  leaf_names xs = map (λ l. l.leaf) xs

  abbrev pub names_of : Option (Transformer Frames Identifier) → List (Named Identifier)
  names_of None = []
  names_of (Some m) = leaf_names (leaves_of identifiers m.rules)

  abbrev pub frames_of : Option (Transformer Frames Identifier) → Frames
  frames_of None = []
  frames_of (Some m) = m.env

  names_asked : (fs : Frames) (xs : List (Leaf Identifier)) → map (λ n. Meant fs n.name) (leaf_names xs) ≡ map (λ (l : Leaf Identifier). Meant fs l.leaf.name) xs
  names_asked fs [] = refl
  names_asked fs (x ∷ xs) = ap (λ (qs : List (Asked Frames Identifier)). Meant fs x.leaf.name ∷ qs) (names_asked fs xs)

  pub leaves_same : (o : Option (Transformer Frames Identifier)) → map (λ n. Meant (frames_of o) n.name) (names_of o) ≡ leaves_asked (noting known) o
  leaves_same None = refl
  leaves_same (Some m) = names_asked m.env (leaves_of identifiers m.rules)

  module _ (work : Work) where
    abbrev leaf_at : Frames → Leaf Identifier → RuleLeaf
    leaf_at fs l = record { target = record { meaning = (noting known).means fs s l.leaf.name; ident = l.leaf.name; occ = l.leaf.occ }; literal = l.literal }

    all_leaves : (fs : Frames) (cs : List code_leaf.RuleLeaf) (xs : List (Leaf Identifier)) → AllMatch (IsLeaf work.symbols s.unit s.form) cs (map (leaf_at fs) xs) → AllMatch (LeafFor work s fs) cs (leaf_names xs)
    all_leaves fs [] [] h = tt
    all_leaves fs [] (x ∷ xs) h = absurd h
    all_leaves fs (c ∷ cs) [] h = absurd h
    all_leaves fs (c ∷ cs) (x ∷ xs) h = (h.0.target, all_leaves fs cs xs h.1)

    pub leaves_match : (b : Binder) (o : Option (Transformer Frames Identifier)) (cs : List code_leaf.RuleLeaf) → AllMatch (IsLeaf work.symbols s.unit s.form) cs (macro_with (noting known) s b o).leaves → AllMatch (LeafFor work s (frames_of o)) cs (names_of o)
    leaves_match b None [] h = tt
    leaves_match b None (c ∷ cs) h = absurd h
    leaves_match b (Some m) cs h = all_leaves m.env cs (leaves_of identifiers m.rules) h

  -- ---- local macros, from their ends

  append_noted : (ps qs : List (Asked Frames Identifier)) (ns : List Noted) → noted_with known s ps (noted_with known s qs ns) ≡ noted_with known s (ps ++ qs) ns
  append_noted [] qs ns = refl
  append_noted (p ∷ ps) qs ns = ap (λ (ms : List Noted). one p ++ ms) (append_noted ps qs ns)
    where
      one : Asked Frames Identifier → List Noted
      one q = note_of known s q

  -- one list of questions before another
  pub asked_before : (ps qs : List (Asked Frames Identifier)) → (noting known).ask ps ((noting known).ask qs s) ≡ (noting known).ask (ps ++ qs) s
  asked_before ps qs =
      let behind = noted_with known s qs s.noted in
      ap (λ (ms : List Noted). record s { noted = ms }) (all_same known s behind ps behind ∙ append_noted ps qs s.noted)

  abbrev pub local_binder : Number → Named Identifier → Binder
  local_binder v n = record { bound = LocalNumber v; ident = n.name; occ = n.occ }

  pub record LocalAt (work : Work) (vs : List Number) (ns : List (Named Identifier)) (k : ℕ) (d : code_def.MacroDef) : Type 0 where
    pub number : Number
    pub name : Named Identifier
    pub held : IsMacro work s.unit s.form d (macro_def (noting known) s (local_binder number name))
    pub asked : locals_asked (noting known) s (drop k vs) (drop k ns) ≡ macro_asked (noting known) s (local_binder number name) ++ locals_asked (noting known) s (drop (k + 1) vs) (drop (k + 1) ns)

  module _ (work : Work) where
    abbrev Defs : List code_def.MacroDef → List MacroDef → Type 0
    Defs = AllMatch (IsMacro work s.unit s.form)

    pub local_there : (ds : List code_def.MacroDef) (vs : List Number) (ns : List (Named Identifier)) (k : ℕ) (d : code_def.MacroDef) → Defs ds (local_defs (noting known) s vs ns) → k < length ds → LocalAt work vs ns k (get_or ds k d)
    local_there [] vs ns k d h l = absurd (omega (arith, l))
    local_there (x ∷ ds) [] ns k d h l = absurd h
    local_there (x ∷ ds) (v ∷ vs) [] k d h l = absurd h
    local_there (x ∷ ds) (v ∷ vs) (n ∷ ns) zero d h l = record { number = v; name = n; held = h.0; asked = refl }
    local_there (x ∷ ds) (v ∷ vs) (n ∷ ns) (suc k) d h l =
        let p = local_there ds vs ns k d h.1 (omega (arith, l)) in
        let more : suc (k + 1) ≡ suc k + 1 = omega arith in
        record {
          number = p.number;
          name = p.name;
          held = p.held;
          asked = p.asked ∙ ap (λ (i : ℕ). macro_asked (noting known) s (local_binder p.number p.name) ++ locals_asked (noting known) s (drop i (v ∷ vs)) (drop i (n ∷ ns))) more;
        }

    none_asked : (vs : List Number) → locals_asked (noting known) s vs [] ≡ []
    none_asked [] = refl
    none_asked (v ∷ vs) = refl

    pub locals_past : (ds : List code_def.MacroDef) (vs : List Number) (ns : List (Named Identifier)) (k : ℕ) → Defs ds (local_defs (noting known) s vs ns) → length ds ≤ k → locals_asked (noting known) s (drop k vs) (drop k ns) ≡ []
    locals_past [] [] ns k h l = ap (λ (ws : List Number). locals_asked (noting known) s ws (drop k ns)) (drop_none k)
      where
        drop_none : (i : ℕ) → drop {A = Number} i [] ≡ []
        drop_none zero = refl
        drop_none (suc i) = refl
    locals_past [] (v ∷ vs) [] k h l = ap (locals_asked (noting known) s (drop k (v ∷ vs))) (drop_none k) ∙ none_asked (drop k (v ∷ vs))
      where
        drop_none : (i : ℕ) → drop {A = Named Identifier} i [] ≡ []
        drop_none zero = refl
        drop_none (suc i) = refl
    locals_past [] (v ∷ vs) (n ∷ ns) k h l = absurd h
    locals_past (x ∷ ds) [] ns k h l = absurd h
    locals_past (x ∷ ds) (v ∷ vs) [] k h l = absurd h
    locals_past (x ∷ ds) (v ∷ vs) (n ∷ ns) zero h l = absurd (omega (arith, l))
    locals_past (x ∷ ds) (v ∷ vs) (n ∷ ns) (suc k) h l = locals_past ds vs ns k h.1 (omega (arith, l))
