-- The errors of parsing a `config`, from those of its parts.
use Rattle.fp_keyfile.specs.declared.fault.KeyError.{KeyError}
use Rattle.fp_keyfile.specs.declared.fault.KeyError.TheVariants as keys
use Rattle.fp_name.specs.declared.fault.NameError.{NameError}
use Rattle.fp_name.specs.declared.fault.NameError.TheVariants as names
use Rattle.fp_small.specs.declared.config.ConfigError.{ConfigError}
use Rattle.fp_small.specs.declared.config.ConfigError.TheVariants.{Bad, NoMemory}

-- The `ConfigError` that a `KeyError` is converted to
abbrev pub key_fault : KeyError → ConfigError
key_fault (keys.Fault fault) = Bad
key_fault keys.NoMemory = NoMemory

-- The `ConfigError` that a `NameError` is converted to
abbrev pub name_fault : NameError → ConfigError
name_fault names.Bad = Bad
name_fault names.NoMemory = NoMemory
