pub mod MovedParts  -- What changes of identifiers and of places make of all else that is read of a form
pub mod MovingSteps  -- Steps of laws of changes
pub mod Turned  -- An identifier seen by what it came from, or by its symbol, before a change and after it
pub mod MovedShapes  -- Reading the shape of a core form commutes with a change that tells identifiers apart
pub mod MovedPatterns  -- What rules tell of their patterns and templates, once each identifier and each place is changed
pub mod MovedRules  -- Reading and checking the rules of a macro commutes with a change that tells identifiers apart
pub mod MovedComparisons  -- Which literals of rules are compared with which identifiers of a use, once both sides are changed
pub mod MovedMatches  -- Matching commutes with changes of the rules and of the form under which rules tell their identifiers alike, and literals mean the same
pub mod MovedBuilds  -- Building an instance of a template commutes with changes of the template and of what its variables stand for
pub mod MovedLeaves  -- The leaves of rules that mean something where their macro is defined, once each identifier and each place is changed
pub mod MovedQuasi  -- Reading a quasiquotation commutes with a change under which each identifier marks the same
pub mod MovedRequirements  -- Reading `cond-expand` commutes with a change that keeps symbols
pub mod OneToOne  -- A one to one renumbering tells numbers, identifiers and meanings apart
pub mod Sides  -- Two records of operations, of which the second does what the first does, renumbered
pub mod SideSteps  -- Steps on both sides
pub mod SideQuestions  -- What is asked on both sides
pub mod SideUses  -- Heads, targets and macro uses on both sides
pub mod SideForms  -- The forms of a body or a unit, gone through on both sides
pub mod SideRuns  -- A form gone through, whatever its head, and all forms of a body or a unit, on both sides
pub mod SideExpressions  -- Expressions on both sides
pub mod SideUnits  -- The forms of a unit on both sides
pub mod SideLaws  -- The law of two sides, for a form that is gone through, for what it set aside, and for the forms of a unit
pub mod NameLaws  -- What a renumbering does to names, to what is substituted in them, and to what they mean
pub mod ModelSide  -- Expansion by substitution under old numbers and under new ones
pub mod ScopedSide  -- Expansion by scopes, where a local is told by its count alone, under old numbers and under new ones
pub mod NewAnswers  -- Under other numbers each question has the same answer, renumbered, whether the form answers it itself or what is around it
pub mod AskingSide  -- A form with its questions under old numbers and under new ones
pub mod NewSurroundings  -- All surroundings of a form correspond to themselves under new numbers, so the laws on questions speak of every form
pub mod ArrowLaws  -- Arrows of renumbered leaves, keywords and names are those before, renumbered
pub mod PreludeLaws  -- The prelude under a renumbering that keeps its unit and its form
pub mod RenumberedStates  -- Each state corresponds to itself under new numbers, so the law speaks of every state
pub mod DatumLaws  -- The tree of a datum as a form with another number of a unit with another number
pub mod PairingLaws  -- A pairing is a renumbering with an inverse
pub mod PairedLaws  -- Units and forms that are paired give a renumbering with an inverse, which keeps the prelude where this stands in no pair
pub mod ProgramArrowLaws  -- The arrows of the units of a program under other numbers, units in the same order
pub mod RenumberingRows  -- A form under other numbers, computed
pub mod WiderLaws  -- What wider laws would break, computed
pub mod ArrowOrders  -- Arrows are told by which leaves, keywords and names there are, and not by their order
pub mod BoundLocals  -- Where each unit binds locals of its own number, each local is bound at one place, in whatever order units come
pub mod ExportLaws  -- What a unit exports under other numbers
pub mod FormLaws  -- The law for a form, for what it set aside and for the forms of a unit, by scopes and by substitution, with what is defined since
pub mod UnitLaws  -- A unit of a program under another number
