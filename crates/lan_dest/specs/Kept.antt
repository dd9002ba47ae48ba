-- What the LAN parameters hold.
use Rattle.lan_dest.specs.declared.lan.Lan.{Lan}
use Rattle.lan_dest.specs.Parameters.{Tables}
use Rattle.lan_dest.specs.Arrays.{tables_of}

-- what is kept at each place
abbrev pub kept : Lan → Tables
kept lan = tables_of lan.communities lan.kinds lan.addresses
