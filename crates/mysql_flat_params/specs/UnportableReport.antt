-- The report on the first construct for which a query isn't portable: a number and a position.
use Rattle.std.specs.Prelude.{ℕ, Option, Some, None}
use Rattle.mysql_portable.specs.declared.portable.Construct.{Construct}
use Rattle.mysql_portable.specs.declared.portable.Construct.TheVariants.{ExecutableComment, Hint, MariaDbComment, Dashes, EscapedQuote, Bracket, DollarQuote, DashesAfterExponent, PlaceAfterExponent, OpenerInComment, JoiningComment, DashesBeforeComment, ClientCommand, DashInFront, Delimiter, ClientWord, EscapedNewline, ZeroByte, EscapedBackquote, ReturnInComment}
use Rattle.mysql_portable.specs.declared.portable.Unportable.{Unportable}
use Rattle.mysql_flat_params.specs.Outcomes.{no_fields}
use Rattle.mysql_flat_params.specs.declared.outcome.Report.{Report}

-- the number of a construct
abbrev pub construct_number : Construct → ℕ
construct_number ExecutableComment = 1
construct_number Hint = 2
construct_number MariaDbComment = 3
construct_number Dashes = 4
construct_number EscapedQuote = 5
construct_number Bracket = 6
construct_number DollarQuote = 7
construct_number DashesAfterExponent = 8
construct_number PlaceAfterExponent = 9
construct_number OpenerInComment = 10
construct_number JoiningComment = 11
construct_number DashesBeforeComment = 12
construct_number ClientCommand = 13
construct_number DashInFront = 14
construct_number Delimiter = 15
construct_number ClientWord = 16
construct_number EscapedNewline = 17
construct_number ZeroByte = 18
construct_number EscapedBackquote = 19
construct_number ReturnInComment = 20

-- the number of the construct that was found: 0 if none was
abbrev pub unportable_number : Option Unportable → ℕ
unportable_number None = 0
unportable_number (Some found) = construct_number found.construct

-- the fields for the construct that was found: its position
abbrev pub unportable_report : Option Unportable → Report
unportable_report None = no_fields
unportable_report (Some found) = record no_fields { position = found.at }
