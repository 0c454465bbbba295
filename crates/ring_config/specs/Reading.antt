-- The texts that spell a configuration.
use Rattle.std.specs.Prelude.{◌≡◌, ◌≤◌, ℕ, List, Some, codes, pos, suc}
use Rattle.std.specs.Str.{IsUtf8}
use Rattle.toml.specs.Data.{Members, get_member, integer, member, no_members}
use Rattle.toml.specs.Parse.{parse_document}
use Rattle.ring_config.specs.declared.config.Config.{Config}

-- how many keys a table has
abbrev pub count : Members → ℕ
count no_members = 0
count (member key value rest) = suc (count rest)

-- The table has this number under the key, from 1 to the most that it may be.
pub record Holds (members : Members) (key : List ℕ) (most : ℕ) (n : ℕ) : Type 0 where
  pub held : get_member key members ≡ Some (integer (pos n))
  pub some : 1 ≤ n
  pub few : n ≤ most

-- The table has the three numbers of the configuration, and nothing else.
pub record IsConfigOf (members : Members) (config : Config) : Type 0 where
  pub workers : Holds members (codes "workers") 8 config.workers
  pub inbox : Holds members (codes "inbox") 65536 config.inbox
  pub port : Holds members (codes "port") 65535 config.port
  pub only : count members ≡ 3

-- The text is a TOML document of such a table.
pub record Spells (bytes : List ℕ) (config : Config) : Type 0 where
  pub text : IsUtf8 bytes
  pub members : Members
  pub document : parse_document bytes ≡ Some members
  pub told : IsConfigOf members config
