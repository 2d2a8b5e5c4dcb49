use Rattle.ft_json.proofs.Back.{read_line-compact_text, one_value}
use Rattle.ft_json.proofs.laws.texts_stand_for_values.Goals as goal

pub returns-clause-read_back : goal.returns-clause-read_back
returns-clause-read_back c = read_line-compact_text

pub returns-clause-tell_apart : goal.returns-clause-tell_apart
returns-clause-tell_apart c = one_value
