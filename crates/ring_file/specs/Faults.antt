-- The faults of each call.
use Rattle.std.specs.Prelude.{◌≡◌, ◌⊎◌}
use Rattle.ring_file.specs.declared.place.PlaceFault.{PlaceFault}
use Rattle.ring_file.specs.declared.place.PlaceFault.TheVariants as place_fault

-- the faults of taking a place
abbrev pub IsTakeFault : PlaceFault → Type 0
IsTakeFault fault =
    (fault ≡ place_fault.InUse) ⊎ (fault ≡ place_fault.Unreadable)
    ⊎ (fault ≡ place_fault.NoMemory)

-- the faults of reading a file
abbrev pub IsReadFault : PlaceFault → Type 0
IsReadFault fault =
    (fault ≡ place_fault.Unreadable) ⊎ (fault ≡ place_fault.NotAFile)
    ⊎ (fault ≡ place_fault.NoMemory)

-- the faults of replacing a file
abbrev pub IsBeginFault : PlaceFault → Type 0
IsBeginFault fault = (fault ≡ place_fault.Failed) ⊎ (fault ≡ place_fault.NoMemory)
