-- The errors of `ParsedNamedParams::parse`.
use Rattle.mysql_named_params.specs.declared.named_params.MixedParamsError.{MixedParamsError}

-- the only value of its type
abbrev pub mixed : MixedParamsError
mixed = record {}
