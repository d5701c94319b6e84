-- A unit of both programs at a place of their lists.
use Rattle.std.proofs.Common.{◌≡◌, ℕ, ◌<◌, List, length, get_or, Option, Some, None, refl, sym, subst}
use Rattle.std.specs.Prelude.{Bool, true, false}
use Rattle.std.specs.Option.{is_some, is_none}
use Rattle.scheme_model.specs.declared.Occ.{Occ}
use Rattle.scheme_model.specs.Requirements.{LibraryName}
use Rattle.scheme_model.specs.IncludedUnits.{Placed}
use Rattle.scheme_model.specs.Program.{Program, result_at}
use Rattle.rename_model.specs.SameProgram.{ExportChange, unit_stretches, live_in}
use Rattle.rename_model.specs.Difference as model
use Rattle.rename_model.specs.Difference.{first_among}
use Rattle.syntax_tree.specs.Names.{Names}
use Rattle.core_tree.specs.Units.{UnitsStand, ProgramStands, IsProgramOf}
use Rattle.core_tree.specs.declared.units.Program as code
use Rattle.core_tree.specs.declared.units.Unit.{Unit as CodeUnit}
use Rattle.syntax_tree.specs.declared.trees.Work.{Work}
use Rattle.program_leaves.specs.declared.sight.Sight.{Sight}
use Rattle.program_leaves.specs.Sights.{SeesProgram}
use Rattle.alpha_equal.specs.Compared.{TellsLive}
use Rattle.program_differences.specs.declared.both.Programs.{Programs}
use Rattle.program_differences.specs.declared.listed.Apart.{Apart}
use Rattle.program_differences.specs.Apart.{AreFound, IsApart}
use Rattle.program_differences.specs.Both.{IsUnitOf, ProgramsStand, AreStanding, AreComparable}
use Rattle.program_differences.specs.Listed.{AreAlike}
use Rattle.program_differences.proofs.ApartLaws.{none_found}
use Rattle.program_differences.proofs.UnitLaws.{UnitAt, units_from, unit_found, there_at}

-- what a unit of a program stands for
pub unit_of : (work : Work) (text : LibraryName → List ℕ) (uris : List (List ℕ)) (all : List Placed) (p : Program) (cs : List CodeUnit) (n : ℕ) (c : CodeUnit) → UnitsStand work text uris all p 0 cs p.units → n < length cs → c ≡ get_or cs n c →
    UnitAt work text uris all p n c
unit_of work text uris all p cs n c h lt is = unit_found work text uris all p cs (units_from work text uris all p cs h) n c (there_at cs n c lt is)

-- it stands for something
pub is_unit : (work : Work) (c : code.Program) (n : ℕ) (u : CodeUnit) → IsProgramOf work c → n < length c.units → u ≡ get_or c.units n u → IsUnitOf work n u
is_unit work c n u h lt is =
    let a = unit_of work h.0 h.1 h.2 h.3 c.units n u h.4 lt is in
    record { text = h.0; uris = h.1; all = h.2; p = h.3; r = a.it; stand = a.stands }

-- as many forms
pub same_count : (cs ds : List CodeUnit) (n : ℕ) (c d : CodeUnit) → AreAlike cs ds → n < length cs → n < length ds → c ≡ get_or cs n c → d ≡ get_or ds n d → length c.forms ≡ length d.forms
same_count cs ds n c d alike lt more one other = alike.forms n c d (there_at cs n c lt one) (there_at ds n d more other)

-- where neither program has a unit nothing differs
pub nothing_there : (live : Option Occ → Bool) (p q : Program) (changes : List ExportChange) (n : ℕ) → result_at p.units n ≡ None → result_at q.units n ≡ None →
    first_among live (unit_stretches p q changes n (result_at p.units n) (result_at q.units n)) ≡ None
nothing_there live p q changes n e f = (λ j. first_among live (unit_stretches p q changes n (e j) (f j)))

-- ---- two programs

pub is_program : (work : Work) (text : LibraryName → List ℕ) (uris : List (List ℕ)) (all : List Placed) (c : code.Program) (p : Program) → ProgramStands work text uris all c p → IsProgramOf work c
is_program work text uris all c p h = (text, uris, all, p, h)

pub are_standing : (c : Programs) → AreComparable c.work.now c.old.now c.new.now → AreStanding c
are_standing c h = record {
  old = is_program c.work.now h.text h.uris h.before c.old.now h.p h.old_stands;
  new = is_program c.work.now h.text h.uris h.after c.new.now h.q h.new_stands;
}

pub programs_are : (c : Programs) (work : Work) (old new : code.Program) (text : LibraryName → List ℕ) (uris : List (List ℕ)) (before after : List Placed) (p q : Program) → c.work.now ≡ work → c.old.now ≡ old → c.new.now ≡ new →
    ProgramStands work text uris before old p → ProgramStands work text uris after new q → ProgramsStand text uris before after c p q
programs_are c work old new text uris before after p q w o n h g = record {
  old = subst (λ (x : Work). ProgramStands x text uris before c.old.now p) (sym w) (subst (λ (x : code.Program). ProgramStands work text uris before x p) (sym o) h);
  new = subst (λ (x : Work). ProgramStands x text uris after c.new.now q) (sym w) (subst (λ (x : code.Program). ProgramStands work text uris after x q) (sym n) g);
}

abbrev pub comparable : (c : Programs) (work : Work) (old new : code.Program) → c.work.now ≡ work → c.old.now ≡ old → c.new.now ≡ new → AreComparable work old new → AreComparable c.work.now c.old.now c.new.now
comparable c work old new w o n h =
    let are = programs_are c work old new h.text h.uris h.before h.after h.p h.q w o n h.old_stands h.new_stands in
    record {
      text = h.text;
      uris = h.uris;
      before = h.before;
      after = h.after;
      p = h.p;
      q = h.q;
      tells = h.tells;
      distinct = h.distinct;
      old_stands = are.old;
      new_stands = are.new;
      old_given = h.old_given;
      new_given = h.new_given;
    }

-- ---- what is live

pub tells_live : (work : Work) (s : Sight) (all : List Placed) (p : Program) → SeesProgram work s all p → TellsLive (Some s) (live_in all p)
tells_live work s all p sees None = refl
tells_live work s all p sees (Some o) = sym (sees.live_are o)

-- ---- what is found

pub nothing_found : (names : Names) (q : Option model.Apart) (found : Option Apart) → is_none found ≡ true → AreFound names found q → q ≡ None
nothing_found names q None e h = none_found names q h
nothing_found names q (Some c) e h = absurd cc

pub one_found : (names : Names) (q : Option model.Apart) (c : Apart) → AreFound names (Some c) q → (a : model.Apart) × (q ≡ Some a) × IsApart names c a
one_found names None c h = absurd h
one_found names (Some a) c h = (a, refl, h)

-- the same of what was found
pub found_of : (names : Names) (q : Option model.Apart) (found other : Option Apart) → found ≡ other → AreFound names found q → AreFound names other q
found_of names q found other e h = subst (λ (x : Option Apart). AreFound names x q) e h

pub not_some : (found : Option Apart) → is_some found ≡ false → found ≡ None
not_some None e = refl
not_some (Some c) e = absurd cc
