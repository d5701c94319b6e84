-- The text that the program says by itself: the usage.
use Rattle.std.specs.Prelude.{ℕ, List, codes}

-- what is printed where the words aren't a command
abbrev pub usage_text : List ℕ
usage_text =
    codes "usage: scheme_ls serve\n       scheme_ls serve --ahead\n       scheme_ls replay FILE\n       scheme_ls arrows\n       scheme_ls check FILE...\n       scheme_ls rename FILE LINE COL NAME\n       scheme_ls selfrun N\n"
