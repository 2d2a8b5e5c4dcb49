-- The words of the two parts of a document.
use Rattle.std.specs.Prelude.{codes}
use Rattle.ft_props.specs.Properties.{Characters}
use Rattle.ft_seqr.specs.declared.reading.Address.{Address}
use Rattle.ft_seqr.specs.declared.reading.Address.TheVariants.{Text, Grid}

-- the word of a part
abbrev pub word_of : Address → Characters
word_of Text = codes "text"
word_of Grid = codes "grid"
