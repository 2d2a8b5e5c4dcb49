-- The report: what is written of an input. Every line of it ends with LF.
use Rattle.std.specs.Prelude.{ℕ, List, [], Option, Some, None}
use Rattle.ft_replay.specs.Forms.{generated_account, load_account, log_account, map_account, play_account, session_account}
use Rattle.ft_replay.specs.LineForm.{Account}
use Rattle.ft_cli.specs.declared.words.Form.{Form}
use Rattle.ft_cli.specs.declared.words.Form.TheVariants.{Gen, Load, Log, Map, Play, Session}
use Rattle.ft_cli.specs.Words.{form_of}

-- what a command comes to
abbrev pub account_of : Form → Account
account_of Log = log_account
account_of Load = load_account
account_of Map = map_account
account_of Session = session_account
account_of (Gen settings) = generated_account settings
account_of (Play settings) = play_account settings

-- what is written for an input, nothing where there is no command
abbrev pub report_for : Option Form → List ℕ → List ℕ
report_for None bytes = []
report_for (Some form) bytes = (account_of form).report bytes

-- the report of an input under these arguments
abbrev pub report : List (List ℕ) → List ℕ → List ℕ
report words bytes = report_for (form_of words) bytes
