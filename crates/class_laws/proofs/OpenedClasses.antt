-- The class that a rename takes in open documents is by links alone.
use Rattle.std.proofs.Common.{◌≡◌, ℕ, List, [], true, false, sym, subst}
use Rattle.scheme_model.specs.declared.Occ.{Occ}
use Rattle.scheme_model.specs.Spelling.{is_joined, is_member, class_of}
use Rattle.model_laws.proofs.FrameAsks.{AllOf}
use Rattle.arrow_index.proofs.ClassLaws.{member_in}
use Rattle.text_edits.specs.Members.{is_part}
use Rattle.rename_conditions.specs.Readers.{Reader}
use Rattle.rename_conditions.specs.Opened.{Opened, documents_read, opened, class_in}
use Rattle.class_laws.specs.Joined.{AreJoined}
use Rattle.class_laws.proofs.LinkOrigins.{IsTarget, LinkHas, origins_lead}
use Rattle.class_laws.proofs.ClassMembers.{joined_member, all_joined, of_filter, parts_are_joined, class_whole, class_none}
use Rattle.class_laws.proofs.ProgramSpelled.{program_spelled}

module _ (r : Reader) (uris texts : List (List ℕ)) where
  abbrev w : Opened
  w = opened r uris texts

  lead : AllOf (LinkHas (IsTarget w.links)) w.links
  lead = origins_lead w.units w.program (program_spelled (documents_read r uris texts))

  pub opened_prefixed : (o : Occ) → is_part w.links o ≡ is_joined w.links o
  opened_prefixed o = parts_are_joined w.links lead o

  pub opened_joined : (o p : Occ) → is_member (class_in w o) p ≡ true → AreJoined w.links o p
  opened_joined o p h = all_joined w.links o p (of_filter (is_part w.links) p (class_of w.links o) (member_in p (class_in w o) h))

  pub opened_same : (o : Occ) → is_joined w.links o ≡ true → class_in w o ≡ class_of w.links o
  opened_same o h = class_whole w.links lead o h

  pub opened_whole : (o p : Occ) → is_joined w.links o ≡ true → AreJoined w.links o p → is_member (class_in w o) p ≡ true
  opened_whole o p h j = subst (λ (ms : List Occ). is_member ms p ≡ true) (sym (opened_same o h)) (joined_member w.links o p j)

  pub opened_none : (o : Occ) → is_joined w.links o ≡ false → class_in w o ≡ []
  opened_none o h = class_none w.links lead o h
