-- The two versions of frames.
use Rattle.std.specs.Prelude.{◌≡◌, ℕ, ⊤, length}
use Rattle.scoop_message.specs.declared.message.Message.{Message}
use Rattle.scoop_message.specs.declared.message.Message.TheVariants.{Log}
use Rattle.scoop_frame.specs.declared.version.Version.{Version}
use Rattle.scoop_frame.specs.declared.version.Version.TheVariants.{One, Two}

-- the byte of the version
abbrev pub version_byte : Version → ℕ
version_byte One = 1
version_byte Two = 2

-- a Log of version 1 has one entry, one of version 2 as many as there may be
abbrev pub CarriesCount : Version → ℕ → Type 0
CarriesCount One count = count ≡ 1
CarriesCount Two count = ⊤

-- everything else is carried by both versions
abbrev pub Carries : Version → Message → Type 0
Carries v (Log h b n es) = CarriesCount v (length es)
Carries v m = ⊤
