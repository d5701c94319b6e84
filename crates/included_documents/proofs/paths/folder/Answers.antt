use Rattle.std.proofs.Common.{Some, None, sym, ◌∙◌, lit<}
use Rattle.std.proofs.lemmas.Str.Pattern.{rfind_char}
use Rattle.included_documents.proofs.Folders.{no_folder, folder_to}
use Rattle.included_documents.proofs.paths.folder.Goals as goal

pub returns-in-None : goal.returns-in-None
returns-in-None c = sym (no_folder c.args.uri.now (rfind_char 47 c.args.uri.now None c.in-None.ensures.cases (lit< tt)))

pub returns-in-Some : goal.returns-in-Some
returns-in-Some c =
    let last = rfind_char 47 c.args.uri.now (Some c.in-Some.at) c.in-Some.ensures.cases (lit< tt) in
    c.range.ensures.value ∙ folder_to c.args.uri.now c.in-Some.at last.0 last.1 last.2
