use Rattle.std.proofs.Common.{sym, ap}
use Rattle.scheme_model.specs.StandardNames.{base_names}
use Rattle.scheme_model.specs.StandardLibraries.{standard_libraries}
use Rattle.base_library.specs.Texts.{names_of}
use Rattle.base_library.proofs.TextLaws.{no_names}
use Rattle.base_library.proofs.libraries.table_of.Goals as goal

pub returns-in-text : goal.returns-in-text
unfolding standard_libraries base_names
returns-in-text c = sym (ap names_of c.in-text.is)

pub returns-in-text-2 : goal.returns-in-text-2
unfolding standard_libraries base_names
returns-in-text-2 c = sym (ap names_of c.in-text-2.is)

pub returns-in-text-3 : goal.returns-in-text-3
unfolding standard_libraries base_names
returns-in-text-3 c = sym (ap names_of c.in-text-3.is)

pub returns-in-text-4 : goal.returns-in-text-4
unfolding standard_libraries base_names
returns-in-text-4 c = sym (ap names_of c.in-text-4.is)

pub returns-in-text-5 : goal.returns-in-text-5
unfolding standard_libraries base_names
returns-in-text-5 c = sym (ap names_of c.in-text-5.is)

pub returns-in-text-6 : goal.returns-in-text-6
unfolding standard_libraries base_names
returns-in-text-6 c = sym (ap names_of c.in-text-6.is)

pub returns-in-text-7 : goal.returns-in-text-7
unfolding standard_libraries base_names
returns-in-text-7 c = sym (ap names_of c.in-text-7.is)

pub returns-in-text-8 : goal.returns-in-text-8
unfolding standard_libraries base_names
returns-in-text-8 c = sym (ap names_of c.in-text-8.is)

pub returns-in-text-9 : goal.returns-in-text-9
unfolding standard_libraries base_names
returns-in-text-9 c = sym (ap names_of c.in-text-9.is)

pub returns-in-text-10 : goal.returns-in-text-10
unfolding standard_libraries base_names
returns-in-text-10 c = sym (ap names_of c.in-text-10.is)

pub returns-in-text-11 : goal.returns-in-text-11
unfolding standard_libraries base_names
returns-in-text-11 c = sym (ap names_of c.in-text-11.is)

pub returns-in-text-12 : goal.returns-in-text-12
unfolding standard_libraries base_names
returns-in-text-12 c = sym (ap names_of c.in-text-12.is)

pub returns-in-text-13 : goal.returns-in-text-13
unfolding standard_libraries base_names
returns-in-text-13 c = sym (ap names_of c.in-text-13.is)

pub returns-in-text-14 : goal.returns-in-text-14
unfolding standard_libraries base_names
returns-in-text-14 c = sym (ap names_of c.in-text-14.is)

pub returns-in-text-15 : goal.returns-in-text-15
unfolding standard_libraries base_names
returns-in-text-15 c = sym (ap names_of c.in-text-15.is)

pub returns-in_default : goal.returns-in_default
unfolding standard_libraries
returns-in_default c =
    let d = c.in_default in
    no_names standard_libraries c.args.name.now (d.not-text, (d.not-text-2, (d.not-text-3, (d.not-text-4, (d.not-text-5, (d.not-text-6, (d.not-text-7, (d.not-text-8, (d.not-text-9, (d.not-text-10, (d.not-text-11, (d.not-text-12, (d.not-text-13, (d.not-text-14, (d.not-text-15, (tt))))))))))))))))
