-- Under other numbers each question has the same answer, renumbered, whether the form answers it itself or what is around it.
use Rattle.std.proofs.Common.{◌≡◌, ℕ, suc, ◌+◌, List, [], ◌∷◌, ◌++◌, map, Bool, true, false, cond, Option, Some, None, refl, sym, ap, ◌∙◌, arith}
use Rattle.std.specs.Prelude.{◌&&◌, ◌==◌}
use Rattle.scheme_model.specs.Identifiers.{Number}
use Rattle.scheme_model.specs.Ident.{Ident, Written, Inserted}
use Rattle.scheme_model.specs.ExpansionFaults.{Named}
use Rattle.scheme_model.specs.Meaning.{Meaning, Local, Global, Standard, Free, same_meaning}
use Rattle.scheme_model.specs.RulesShape.{Rules, option_map}
use Rattle.scheme_model.specs.Cores.{LocalNumber, Definition}
use Rattle.scheme_model.specs.Order.{Note, Pending, Transformer, is_some}
use Rattle.scheme_model.specs.Substitution.{Table, Entries, defined_in, definition_count, is_variable, any}
use Rattle.scheme_model.specs.Scopes.{own_of, given_or, local_or}
use Rattle.scheme_model.specs.ScopedExpansion.{Bind, Enter, Frames, FramedIdent, BodyDefinitions, UsePlace, ScopedMacro, around, find, means_outside, macro_at, macro_added, body_around, assigned, is_defined}
use Rattle.scheme_model.specs.OwnAnswers.{found_or, local_inside, unless, local_outside, own_local, root_means, own_means, own_macro, unit_refused, body_refused}
use Rattle.scheme_model.specs.Questions.{Moment, Around, at_moment, own_at, number_in, Outcome, Stands, Redefines, StoodBefore, found, outcome_by, unit_outcome, body_outcome, outcome, Question, LooksUp, UsesRules, Compares, IsAssigned, Requires, Defines, Means, Expands, Says, Ends, bare, bare_macro, answer, bound_at, ended}
use Rattle.scheme_model.proofs.RenamingLaws.{cond_map, map-append}
use Rattle.renumbering_laws.specs.Moving.{Change, move_named, move_rules}
use Rattle.renumbering_laws.specs.Renumbering.{Renumbering, IsOneToOne, number, place, ident, meaning, change, bound, pending_as}
use Rattle.renumbering_laws.specs.States.{defined_as, TablesMove, EntriesMove, CountsOn}
use Rattle.renumbering_laws.specs.Asked.{new_frames, new_framed, new_note, new_macro, new_kept, new_use, new_definition, new_moment, new_question, new_answer, AroundMoves}
use Rattle.renumbering_laws.proofs.Sides.{DefinedMoves}
use Rattle.renumbering_laws.proofs.OneToOne.{number_moved, ident_moved, same_moved}
use Rattle.renumbering_laws.proofs.NameLaws.{some_kept, any_moved, variable_moved, table_step}
use Rattle.renumbering_laws.proofs.ScopedSide.{given_moved, own_moved}

-- ---- frames

pub body_moved : (r : Renumbering) (fs : Frames) → body_around (new_frames r fs) ≡ option_map (number r) (body_around fs)
body_moved r [] = refl
body_moved r (Bind x v ∷ fs) = body_moved r fs
body_moved r (Enter b u ∷ fs) = refl

bare_moved : (r : Renumbering) (fs : Frames) → bare (new_frames r fs) ≡ new_frames r (bare fs)
bare_moved r [] = refl
bare_moved r (Bind x v ∷ fs) = ap (λ gs. Bind (ident r x) (number r v) ∷ gs) (bare_moved r fs)
bare_moved r (Enter b u ∷ fs) = ap (λ gs. Enter (number r b) (λ f. 0) ∷ gs) (bare_moved r fs)

macro_bare_moved : (r : Renumbering) (o : Option (Transformer Frames Ident)) → option_map bare_macro (option_map (new_macro r) o) ≡ option_map (new_macro r) (option_map bare_macro o)
macro_bare_moved r None = refl
macro_bare_moved r (Some m) = ap (λ fs. Some (record { env = fs; rules = move_rules (change r) m.rules })) (bare_moved r m.env)

unless_moved : (r : Renumbering) (b : Bool) (o : Option Number) → unless b (option_map (number r) o) ≡ option_map (number r) (unless b o)
unless_moved r true o = refl
unless_moved r false o = refl

local_or_moved : (r : Renumbering) (o : Option Number) (m : Meaning) → local_or (option_map (number r) o) (meaning r m) ≡ meaning r (local_or o m)
local_or_moved r None m = refl
local_or_moved r (Some v) m = refl

added_moved : (r : Renumbering) (m : Meaning) (fs : Frames) (x : Option (Rules Ident)) (ks : List ScopedMacro)
    → macro_added (meaning r m) (new_frames r fs) (option_map (move_rules (change r)) x) (map (new_kept r) ks) ≡ map (new_kept r) (macro_added m fs x ks)
added_moved r m fs None ks = refl
added_moved r m fs (Some x) ks = refl

-- the macros of both sides
abbrev pub MacrosKept : Renumbering → List ScopedMacro → List ScopedMacro → Type 0
MacrosKept r ks ls = (m : Meaning) → macro_at ls (meaning r m) ≡ option_map (new_macro r) (macro_at ks m)

module _ (r : Renumbering) (o : IsOneToOne r) where
  abbrev mv : Change Ident Ident
  mv = change r

  -- ---- what the form has made and found

  pub own_table : (t : Table) → TablesMove r t (map (defined_as r) t)
  own_table [] = λ u i. refl
  own_table (d ∷ t) = table_step r o t (map (defined_as r) t) (own_table t) d

  table_moved : (t base base' : Table) → TablesMove r base base' → TablesMove r (t ++ base) (map (defined_as r) t ++ base')
  table_moved [] base base' l = l
  table_moved (d ∷ t) base base' l = table_step r o (t ++ base) (map (defined_as r) t ++ base') (table_moved t base base' l) d

  count_moved : (t base base' : Table) (u : ℕ) → CountsOn r u (definition_count base u) (definition_count base' (r.unit u)) → CountsOn r u (definition_count (t ++ base) u) (definition_count (map (defined_as r) t ++ base') (r.unit u))
  count_moved [] base base' u l m = l m
  count_moved (d ∷ t) base base' u l m =
      let c = definition_count (t ++ base) u in let c' = definition_count (map (defined_as r) t ++ base') (r.unit u) in
      ap (λ b. cond b (suc c') c' + m) (o.units d.unit u) ∙ go c c' (count_moved t base base' u l) (d.unit == u)
    where
      go : (c c' : ℕ) → CountsOn r u c c' → (b : Bool) → cond b (suc c') c' + m ≡ r.definition u (cond b (suc c) c + m)
      go c c' h true = let e : suc c' + m ≡ c' + suc m = omega arith in let f : c + suc m ≡ suc c + m = omega arith in e ∙ h (suc m) ∙ ap (r.definition u) f
      go c c' h false = h m

  pub own_macros : (ks : List ScopedMacro) → MacrosKept r ks (map (new_kept r) ks)
  own_macros [] m = refl
  own_macros (k ∷ ks) m = cond_map (option_map (new_macro r)) (Some (record { env = k.frames; rules = k.rules })) (macro_at ks m) (same_moved r o k.meaning m) refl (own_macros ks m)

  macros_moved : (ks base base' : List ScopedMacro) → MacrosKept r base base' → MacrosKept r (ks ++ base) (map (new_kept r) ks ++ base')
  macros_moved [] base base' l m = l m
  macros_moved (k ∷ ks) base base' l m = cond_map (option_map (new_macro r)) (Some (record { env = k.frames; rules = k.rules })) (macro_at (ks ++ base) m) (same_moved r o k.meaning m) refl (macros_moved ks base base' l m)

  pub around_moved : (ps : List UsePlace) (k : Number) → around (map (new_use r) ps) (number r k) ≡ new_frames r (around ps k)
  around_moved [] k = refl
  around_moved (p ∷ ps) k = cond_map (new_frames r) p.frames (around ps k) (number_moved r o p.use_number k) refl (around_moved ps k)

  abbrev pub found_as : Number × BodyDefinitions → Number × BodyDefinitions
  found_as q = (number r q.0, map (new_definition r) q.1)

  pub find_moved : (ds : BodyDefinitions) (b : Number) (i : Ident) → find (map (new_definition r) ds) (number r b) (ident r i) ≡ option_map found_as (find ds b i)
  find_moved [] b i = refl
  find_moved (d ∷ ds) b i =
      cond_map (option_map found_as) (Some (d.binder, ds)) (find ds b i) (let x = number_moved r o d.body b in let y = ident_moved r o d.ident i in λ j. x j && y j) refl (find_moved ds b i)

  found_or_moved : (q : Option (Number × BodyDefinitions)) (x : Option Number) → found_or (option_map found_as q) (option_map (number r) x) ≡ option_map (number r) (found_or q x)
  found_or_moved None x = refl
  found_or_moved (Some q) x = refl

  inside_moved : (ds : BodyDefinitions) (fs : Frames) (i : Ident) (x x' : Option Number) → x' ≡ option_map (number r) x → local_inside (map (new_definition r) ds) (new_frames r fs) (ident r i) x' ≡ option_map (number r) (local_inside ds fs i x)
  inside_moved ds [] i x x' e = e
  inside_moved ds (Bind y v ∷ fs) i x x' e = cond_map (option_map (number r)) (Some v) (local_inside ds fs i x) (ident_moved r o y i) refl (inside_moved ds fs i x x' e)
  inside_moved ds (Enter b u ∷ fs) i x x' e =
      (let p = find_moved ds b i in let q = inside_moved ds fs i x x' e in λ j. found_or (p j) (q j)) ∙ found_or_moved (find ds b i) (local_inside ds fs i x)

  outside_moved : (t : Table) (ps : List UsePlace) (ds : BodyDefinitions) (i : Ident) → local_outside (map (defined_as r) t) (map (new_use r) ps) (map (new_definition r) ds) (ident r i) ≡ option_map (number r) (local_outside t ps ds i)
  outside_moved t ps ds (Written u s) = refl
  outside_moved t ps ds (Inserted i k) =
      let a = ap is_some (own_table t k.unit (Inserted i k)) ∙ some_kept (defined_as r) (defined_in t k.unit (Inserted i k)) in
      let x' = local_outside (map (defined_as r) t) (map (new_use r) ps) (map (new_definition r) ds) (ident r i) in
      let b = ap (λ fs. local_inside (map (new_definition r) ds) fs (ident r i) x') (around_moved ps k) ∙ inside_moved ds (around ps k) i (local_outside t ps ds i) x' (outside_moved t ps ds i) in
      (λ j. unless (a j) (b j)) ∙ unless_moved r (is_some (defined_in t k.unit (Inserted i k))) (local_inside ds (around ps k) i (local_outside t ps ds i))

  pub own_local_moved : (n : Moment) (fs : Frames) (i : Ident) → own_local (own_at (new_moment r n)) (new_frames r fs) (ident r i) ≡ option_map (number r) (own_local (own_at n) fs i)
  own_local_moved n fs i =
      inside_moved n.definitions fs i (local_outside n.table n.places n.definitions i) (local_outside (map (defined_as r) n.table) (map (new_use r) n.places) (map (new_definition r) n.definitions) (ident r i)) (outside_moved n.table n.places n.definitions i)

  root_moved : (t t' : Table) (e e' : Entries) → TablesMove r t t' → EntriesMove r e e' → (i : Ident) → means_outside t' e' [] [] (ident r i) ≡ meaning r (means_outside t e [] [] i)
  root_moved t t' e e' lt le (Written u s) = ap (λ q. given_or q (Free s)) (own_moved r t t' e e' lt le u (Written u s)) ∙ given_moved r (own_of t e u (Written u s)) (Free s) (Free s) refl
  root_moved t t' e e' lt le (Inserted i k) =
      ap (λ q. given_or q (means_outside t' e' [] [] (ident r i))) (own_moved r t t' e e' lt le k.unit (Inserted i k))
      ∙ given_moved r (own_of t e k.unit (Inserted i k)) (means_outside t e [] [] i) (means_outside t' e' [] [] (ident r i)) (root_moved t t' e e' lt le i)

  module _ (w v : Around) (l : AroundMoves r w v) where
    -- ---- at a moment

    pub number_in_moved : (n : ℕ) → number_in v n ≡ number r (number_in w n)
    number_in_moved n = let a = l.unit in let b = l.form in λ j. record { unit = a j; form = b j; count = n }

    module _ (n : Moment) where
      abbrev n' : Moment
      n' = new_moment r n

      table_at : TablesMove r (n.table ++ w.state.table) (map (defined_as r) n.table ++ v.state.table)
      table_at = table_moved n.table w.state.table v.state.table l.table

      defined_at : (i : Ident) → defined_in (map (defined_as r) n.table ++ v.state.table) v.state.unit (ident r i) ≡ option_map (defined_as r) (defined_in (n.table ++ w.state.table) w.state.unit i)
      defined_at i = ap (λ u. defined_in (map (defined_as r) n.table ++ v.state.table) u (ident r i)) l.unit ∙ table_at w.state.unit i

      pub root_at : (i : Ident) → root_means (at_moment v n') (ident r i) ≡ meaning r (root_means (at_moment w n) i)
      root_at i = root_moved (n.table ++ w.state.table) (map (defined_as r) n.table ++ v.state.table) w.state.entry v.state.entry table_at l.entry i

      pub means_at_moment : (fs : Frames) (i : Ident) → own_means (own_at n') (at_moment v n') (new_frames r fs) (ident r i) ≡ meaning r (own_means (own_at n) (at_moment w n) fs i)
      means_at_moment fs i = (let a = own_local_moved n fs i in let b = root_at i in λ j. local_or (a j) (b j)) ∙ local_or_moved r (own_local (own_at n) fs i) (root_means (at_moment w n) i)

      macros_at : MacrosKept r (n.macros ++ w.state.macros) (map (new_kept r) n.macros ++ v.state.macros)
      macros_at = macros_moved n.macros w.state.macros v.state.macros l.macros

      pub macro_moved : (m : Meaning) → own_macro (own_at n') (at_moment v n') (meaning r m) ≡ option_map (new_macro r) (own_macro (own_at n) (at_moment w n) m)
      macro_moved (Local k) = own_macros n.macros (Local k)
      macro_moved (Global u i) = macros_at (Global u i)
      macro_moved (Standard s) = macros_at (Standard s)
      macro_moved (Free s) = macros_at (Free s)

      pub assigned_moved : (b : Option Number) (i : Ident) → assigned (at_moment v n') (option_map (number r) b) (ident r i) ≡ assigned (at_moment w n) b i
      assigned_moved None i =
          let a = l.program in let d = ap is_variable (defined_at i) ∙ variable_moved r (defined_in (n.table ++ w.state.table) w.state.unit i) in λ j. a j && d j
      assigned_moved (Some b) i = refl

      pub bound_moved : CountsOn r w.state.unit (definition_count w.state.table w.state.unit) (definition_count v.state.table v.state.unit) → (b : Option Number) → bound_at v n' (option_map (number r) b) ≡ bound r (bound_at w n b)
      bound_moved h None =
          let c = definition_count (n.table ++ w.state.table) w.state.unit in let c' = definition_count (map (defined_as r) n.table ++ v.state.table) (r.unit w.state.unit) in
          let h' : CountsOn r w.state.unit (definition_count w.state.table w.state.unit) (definition_count v.state.table (r.unit w.state.unit)) =
          λ m. ap (λ u. definition_count v.state.table u + m) (sym l.unit) ∙ h m in
          let e : c' ≡ c' + 0 = omega arith in let f : c + 0 ≡ c = omega arith in
          ap (λ u. Definition u (definition_count (map (defined_as r) n.table ++ v.state.table) u)) l.unit
          ∙ ap (λ x. Definition (r.unit w.state.unit) x) (e ∙ count_moved n.table w.state.table v.state.table w.state.unit h' 0 ∙ ap (r.definition w.state.unit) f)
      bound_moved h (Some b) = ap LocalNumber (number_in_moved n.locals)

      -- ---- definitions

      module _ (x : Named Ident) (rs : Option (Rules Ident)) (fs : Frames) where
        abbrev rs' : Option (Rules Ident)
        rs' = option_map (move_rules mv) rs

        new_same : is_some rs' ≡ is_some rs
        new_same = some_kept (move_rules mv) rs

        pub found_moved : (b : Option Number) → found v (option_map (number r) b) (move_named mv x) rs' (new_frames r fs) n' ≡ new_moment r (found w b x rs fs n)
        found_moved None =
            let a = l.unit in let b = l.form in let k = new_same in
            let ms = ap (λ u. macro_added (Global u (ident r x.name)) (new_frames r fs) rs' (map (new_kept r) n.macros)) l.unit ∙ added_moved r (Global w.state.unit x.name) fs rs n.macros in
            λ j. record (new_moment r n) {
              table = record { unit = a j; form = b j; ident = ident r x.name; keyword = k j; occ = place r x.occ } ∷ map (defined_as r) n.table;
              macros = ms j;
            }
        found_moved (Some b) =
            let k = number_in_moved n.locals in
            let ms = ap (λ u. macro_added (Local u) (new_frames r fs) rs' (map (new_kept r) n.macros)) (number_in_moved n.locals) ∙ added_moved r (Local (number_in w n.locals)) fs rs n.macros in
            λ j. record (new_moment r n) {
              locals = suc n.locals;
              definitions = record { body = number r b; ident = ident r x.name; binder = k j } ∷ map (new_definition r) n.definitions;
              macros = ms j;
            }

  -- ---- notes that refuse a definition

  module _ (w v : Around) (l : AroundMoves r w v) (n : Moment) (new : Bool) where
    unit_refused_moved : (g : Meaning) (ns : List (Note FramedIdent))
        → any (unit_refused (own_at (new_moment r n)) (at_moment v (new_moment r n)) (meaning r g) new) (map (new_note r) ns) ≡ any (unit_refused (own_at n) (at_moment w n) g new) ns
    unit_refused_moved g ns =
        any_moved (new_framed r) new (λ p. same_meaning (own_means (own_at n) (at_moment w n) p.frames p.ident) g) (λ p. same_meaning (own_means (own_at (new_moment r n)) (at_moment v (new_moment r n)) p.frames p.ident) (meaning r g))
        (λ p. ap (λ m. same_meaning m (meaning r g)) (means_at_moment w v l n p.frames p.ident) ∙ same_moved r o (own_means (own_at n) (at_moment w n) p.frames p.ident) g)
        (λ p. own_means (own_at n) (at_moment w n) p.frames p.ident) (λ p. own_means (own_at (new_moment r n)) (at_moment v (new_moment r n)) p.frames p.ident)
        (λ p q. (let a = means_at_moment w v l n p.frames p.ident in let b = means_at_moment w v l n q.frames q.ident in λ j. same_meaning (a j) (b j))
        ∙ same_moved r o (own_means (own_at n) (at_moment w n) p.frames p.ident) (own_means (own_at n) (at_moment w n) q.frames q.ident)) ns

    own_meant : (p : FramedIdent) → local_or (own_local (own_at (new_moment r n)) (new_frames r p.frames) (ident r p.ident)) (Free []) ≡ meaning r (local_or (own_local (own_at n) p.frames p.ident) (Free []))
    own_meant p = ap (λ x. local_or x (Free [])) (own_local_moved n p.frames p.ident) ∙ local_or_moved r (own_local (own_at n) p.frames p.ident) (Free [])

    body_refused_moved : (g : Meaning) (ns : List (Note FramedIdent)) → any (body_refused (own_at (new_moment r n)) (meaning r g) new) (map (new_note r) ns) ≡ any (body_refused (own_at n) g new) ns
    body_refused_moved g ns =
        any_moved (new_framed r) new (λ p. same_meaning (local_or (own_local (own_at n) p.frames p.ident) (Free [])) g) (λ p. same_meaning (local_or (own_local (own_at (new_moment r n)) p.frames p.ident) (Free [])) (meaning r g))
        (λ p. ap (λ m. same_meaning m (meaning r g)) (own_meant p) ∙ same_moved r o (local_or (own_local (own_at n) p.frames p.ident) (Free [])) g)
        (λ p. local_or (own_local (own_at n) p.frames p.ident) (Free [])) (λ p. local_or (own_local (own_at (new_moment r n)) p.frames p.ident) (Free []))
        (λ p q. (let a = own_meant p in let b = own_meant q in λ j. same_meaning (a j) (b j)) ∙ same_moved r o (local_or (own_local (own_at n) p.frames p.ident) (Free [])) (local_or (own_local (own_at n) q.frames q.ident) (Free []))) ns

  -- ---- how a definition ends

  module _ (w v : Around) (l : AroundMoves r w v) (n : Moment) (x : Named Ident) (rs : Option (Rules Ident)) (fs : Frames) where
    abbrev m' : Moment
    m' = new_moment r n

    abbrev new_rules : Option (Rules Ident)
    new_rules = option_map (move_rules mv) rs

    pub unit_outcome_moved : (ns : List (Note FramedIdent)) → unit_outcome v m' (new_frames r fs) (move_named mv x) new_rules (map (new_note r) ns) ≡ unit_outcome w n fs x rs ns
    unit_outcome_moved ns =
        let f = found_moved w v l n x rs fs None in let u = l.unit in let k = some_kept (move_rules mv) rs in
        let e = ap (λ zs. map (new_note r) ns ++ zs) l.notes ∙ sym (map-append (new_note r) ns w.notes) in
        let d = ap is_some (defined_at w v l n x.name) ∙ some_kept (defined_as r) (defined_in (n.table ++ w.state.table) w.state.unit x.name) in
        let here = found w None x rs fs n in
        (λ j. outcome_by (any (unit_refused (own_at (f j)) (at_moment v (f j)) (Global (u j) (ident r x.name)) (k j)) (e j)) (d j))
        ∙ ap (λ b. outcome_by b (is_defined (at_moment w n) None x.name)) (unit_refused_moved w v l here (is_some rs) (Global w.state.unit x.name) (ns ++ w.notes))

    body_outcome_moved : (b : Number) (ns : List (Note FramedIdent)) → body_outcome v m' (number r b) (new_frames r fs) (move_named mv x) new_rules (map (new_note r) ns) ≡ body_outcome w n b fs x rs ns
    body_outcome_moved b ns =
        let f = found_moved w v l n x rs fs (Some b) in let u = number_in_moved w v l n.locals in let k = some_kept (move_rules mv) rs in
        let d = ap is_some (find_moved n.definitions b x.name) ∙ some_kept found_as (find n.definitions b x.name) in
        let here = found w (Some b) x rs fs n in
        (λ j. outcome_by (any (body_refused (own_at (f j)) (Local (u j)) (k j)) (map (new_note r) ns)) (d j))
        ∙ ap (λ t. outcome_by t (is_some (find n.definitions b x.name))) (body_refused_moved w v l here (is_some rs) (Local (number_in w n.locals)) ns)

    pub outcome_moved : (b : Option Number) (ns : List (Note FramedIdent)) → outcome v m' (option_map (number r) b) (new_frames r fs) (move_named mv x) new_rules (map (new_note r) ns) ≡ outcome w n b fs x rs ns
    outcome_moved None ns = unit_outcome_moved ns
    outcome_moved (Some b) ns = body_outcome_moved b ns

    pub ended_moved : (b : Option Number) (p : Pending Ident FramedIdent) (c : Outcome)
        → let q = ended c w b x rs fs p n in let q' = ended c v (option_map (number r) b) (move_named mv x) new_rules (new_frames r fs) (pending_as r (ident r) (new_framed r) p) m' in
        DefinedMoves r (ident r) (new_framed r) q.0 q'.0 × (q'.1 ≡ new_moment r q.1)
    ended_moved b p Redefines = (refl, refl)
    ended_moved b p StoodBefore = (refl, refl)
    ended_moved b p Stands = (record { pending = refl; rename = λ i. refl }, found_moved w v l n x rs fs b)

  -- ---- answers

  pub answer_moved : (w v : Around) → AroundMoves r w v → (n : Moment) (q : Question) → answer v (new_moment r n) (new_question r q) ≡ new_answer r (answer w n q)
  answer_moved w v l n (LooksUp i) =
      let m = root_means (at_moment w n) i in
      ap (λ z. Means z (is_some (macro_at (map (new_kept r) n.macros ++ v.state.macros) z))) (root_at w v l n i)
      ∙ ap (λ b. Means (meaning r m) b) (ap is_some (macros_at w v l n m) ∙ some_kept (new_macro r) (macro_at (n.macros ++ w.state.macros) m))
  answer_moved w v l n (UsesRules m) = ap (λ z. Expands (option_map bare_macro z)) (macros_at w v l n m) ∙ ap Expands (macro_bare_moved r (macro_at (n.macros ++ w.state.macros) m))
  answer_moved w v l n (Compares x i) =
      (let a = root_at w v l n x in let b = root_at w v l n i in λ j. Says (same_meaning (a j) (b j))) ∙ ap Says (same_moved r o (root_means (at_moment w n) x) (root_means (at_moment w n) i))
  answer_moved w v l n (IsAssigned i) = ap Says (assigned_moved w v l n None i)
  answer_moved w v l n (Requires x) = let k = l.known in λ j. Says (k j x)
  answer_moved w v l n (Defines fs x rs ns) = ap Ends (unit_outcome_moved w v l n x rs fs ns)
