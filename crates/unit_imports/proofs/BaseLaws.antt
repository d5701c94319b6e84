-- What `(scheme base)` gives: each of its names once, so putting them together changes nothing.
use Rattle.std.proofs.Common.{◌≡◌, ℕ, Bool, true, false, cond, List, [], ◌∷◌, ◌++◌, append_assoc, append-nil, map, Some, None, refl, sym, ap, ◌∙◌}
use Rattle.std.specs.Prelude.{codes, not, ◌&&◌, ◌||◌}
use Rattle.std.specs.Str.{bytes_eq}
use Rattle.scheme_model.specs.Entries.{Entry, entry_at, gather, added, join_entry}
use Rattle.scheme_model.specs.Program.{has_name, standard_entry, base_entries}
use Rattle.scheme_model.specs.StandardLibraries.{standard_libraries}
use Rattle.scheme_model.specs.StandardNames.{base_names}
use Rattle.syntax_tree.proofs.InternLaws.{bytes_told, bytes_itself}
use Rattle.base_library.specs.Texts.{names_of}

-- ---- names of which each stands once

abbrev are_apart : List (List ℕ) → Bool
are_apart [] = true
are_apart (s ∷ ss) = not (has_name ss s) && are_apart ss

base_apart : are_apart base_names ≡ true
unfolding base_names
base_apart = refl

join_new : (es : List Entry) (e : Entry) → entry_at es e.name ≡ None → join_entry es e ≡ added (es ++ e ∷ [])
join_new [] e h = refl
join_new (d ∷ es) e h = go (bytes_eq d.name e.name) refl (join_new es e)
  where
    go : (b : Bool) → bytes_eq d.name e.name ≡ b → (entry_at es e.name ≡ None → join_entry es e ≡ added (es ++ e ∷ [])) → join_entry (d ∷ es) e ≡ added (d ∷ (es ++ e ∷ []))
    go true q more = let z : Some d ≡ None = sym (ap (λ (c : Bool). cond c (Some d) (entry_at es e.name)) q) ∙ h in absurd cc
    go false q more = rw (q, more (sym (ap (λ (c : Bool). cond c (Some d) (entry_at es e.name)) q) ∙ h)) refl

at_more : (es : List Entry) (e : Entry) (s : List ℕ) → entry_at es s ≡ None → bytes_eq e.name s ≡ false → entry_at (es ++ e ∷ []) s ≡ None
at_more [] e s h q = rw q refl
at_more (d ∷ es) e s h q = go (at_more es e s) (bytes_eq d.name s) refl
  where
    go : (entry_at es s ≡ None → bytes_eq e.name s ≡ false → entry_at (es ++ e ∷ []) s ≡ None) → (b : Bool) → bytes_eq d.name s ≡ b → entry_at ((d ∷ es) ++ e ∷ []) s ≡ None
    go more true p = let z : Some d ≡ None = sym (ap (λ (c : Bool). cond c (Some d) (entry_at es s)) p) ∙ h in absurd cc
    go more false p = rw p (more (sym (ap (λ (c : Bool). cond c (Some d) (entry_at es s)) p) ∙ h) q)

split : (a b : Bool) → (a && b) ≡ true → (a ≡ true) × (b ≡ true)
split true true h = (refl, refl)
split true false h = absurd cc
split false b h = absurd cc

is_new : (s : List ℕ) (ss : List (List ℕ)) → not (has_name ss s) ≡ true → (t : List ℕ) → has_name ss t ≡ true → bytes_eq s t ≡ false
is_new s ss h t there = go (bytes_eq s t) refl
  where
    go : (b : Bool) → bytes_eq s t ≡ b → bytes_eq s t ≡ false
    go false q = q
    go true q = let z : false ≡ true = sym (ap (λ (u : List ℕ). not (has_name ss u)) (bytes_told s t q) ∙ ap not there) ∙ h in absurd cc

gather_apart : (es : List Entry) (ss : List (List ℕ)) → are_apart ss ≡ true → ((s : List ℕ) → has_name ss s ≡ true → entry_at es s ≡ None) → (gather es (map standard_entry ss) []).0 ≡ es ++ map standard_entry ss
gather_apart es [] h k = sym (append-nil es)
gather_apart es (s ∷ ss) h k =
    rw (join_new es (standard_entry s) (k s (here (bytes_itself s))))
    (gather_apart (es ++ standard_entry s ∷ []) ss both.1 (λ t there. at_more es (standard_entry s) t (k t (later (bytes_eq s t) t there)) (is_new s ss both.0 t there))
    ∙ append_assoc es (standard_entry s ∷ []) (map standard_entry ss))
  where
    both : (not (has_name ss s) ≡ true) × (are_apart ss ≡ true)
    both = split (not (has_name ss s)) (are_apart ss) h

    here : bytes_eq s s ≡ true → has_name (s ∷ ss) s ≡ true
    here q = rw q refl

    later : (b : Bool) (t : List ℕ) → has_name ss t ≡ true → (b || has_name ss t) ≡ true
    later true t p = refl
    later false t p = p

-- ---- `(scheme base)`

pub base_known : names_of (codes "(scheme base)") ≡ Some base_names
unfolding standard_libraries
base_known = refl

base_are : base_entries ≡ map standard_entry base_names
unfolding standard_libraries
base_are = refl

pub base_gathered : (ss : List (List ℕ)) → Some ss ≡ names_of (codes "(scheme base)") → (gather [] (map standard_entry ss) []).0 ≡ base_entries
base_gathered ss h =
    ap (λ (ts : List (List ℕ)). (gather [] (map standard_entry ts) []).0) same ∙ gather_apart [] base_names base_apart (λ s there. refl) ∙ sym base_are
  where
    same : ss ≡ base_names
    same = let e : Some ss ≡ Some base_names = h ∙ base_known in cc

pub base_there : None ≡ names_of (codes "(scheme base)") → ⊥
base_there h = let z : None ≡ Some base_names = h ∙ base_known in cc
