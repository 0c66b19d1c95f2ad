-- The program before it has all its commands.
use Rattle.std.specs.Prelude.{[], codes}
use Rattle.clap.specs.Words.{App, with_subcommand}
use Rattle.cli_args.specs.CommandLine.{bare_program, run_app, shop_app}

-- The program with no command.
abbrev pub bare_app : App
bare_app = record { top = bare_program; subs = [] }

-- The program with the commands that run jobs.
abbrev pub shops_app : App
shops_app =
    with_subcommand (with_subcommand bare_app run_app.top) (shop_app (codes "report")).top
