-- Descriptions of sections and interfaces.
use Rattle.std.specs.Prelude.{⊤, ◌≡◌, ◌<◌, ◌+◌, ◌-◌, ◌++◌, ◌⊎◌, IsSomeAnd, ℕ, List, [], ◌∷◌, length, map, flat_map, Bool, true, false, Option, Some, None, String, if◌then◌else◌}
use Rattle.std.specs.List.{filter_map, slice_get}
use Rattle.std.specs.Option.{option_map, option_to_list}
use Rattle.std.specs.String.{string_bytes}
use Rattle.std.specs.Global.{Global}
use Rattle.pcap_core.specs.declared.link.DataLink.{DataLink}
use Rattle.pcap_core.specs.declared.errors.PcapError.{PcapError}
use Rattle.pcap_core.specs.Errors.{IsMemory}
use Rattle.pcap_blocks.specs.declared.block_type.BlockType.{BlockType}
use Rattle.pcap_blocks.specs.declared.block_type.BlockType.TheVariants as types
use Rattle.pcap_options.specs.Held.{first_under, string_in, under}
use Rattle.pcap_blocks.specs.InterfaceDescription.{Interface}
use Rattle.pcap_blocks.specs.SectionHeader.{Section, magic_order}
use Rattle.pcap_options.specs.Values.{Entry}
use Rattle.pcap_ng.specs.Blocks.{Item}
use Rattle.pcap_ng.specs.State.{interfaces_at}
use Rattle.pcap_ng.specs.State.{State, opening, within}
use Rattle.pcapfile_run.specs.Passing.{counted}
use Rattle.pcapfile_info.specs.declared.described.Described.{Described}
use Rattle.pcapfile_info.specs.declared.described.Device.{Device}
use Rattle.pcapfile_info.specs.declared.described.Device.TheVariants.{Untold, Told}
use Rattle.pcapfile_info.specs.declared.described.Machine.{Machine}
use Rattle.pcapfile_info.specs.declared.described.Opened.{Opened}
use Rattle.pcapfile_info.specs.declared.progress.Progress.{Progress}

-- What the options of an interface say of its device: a description, the hardware, and the operating system.
pub record DeviceSaid : Type 0 where
  pub description : Option (List ℕ)
  pub hardware : Option (List ℕ)
  pub os : Option (List ℕ)

-- What these options of an interface say of its device ('Interface Description Block', if_description, if_hardware and if_os).
abbrev pub device_in : List Entry → DeviceSaid
device_in options = record { description = first_under 3 string_in options; hardware = first_under 15 string_in options; os = first_under 12 string_in options }

-- What a `Device` holds.
abbrev pub device_told : Device → DeviceSaid
device_told Untold = record { description = None; hardware = None; os = None }
device_told (Told texts) = record {
  description = option_map string_bytes texts.value.description;
  hardware = option_map string_bytes texts.value.hardware;
  os = option_map string_bytes texts.value.os;
}

-- What the options of a section say of how it was made: the application, the hardware, and the operating system.
pub record MachineSaid : Type 0 where
  pub application : Option (List ℕ)
  pub hardware : Option (List ℕ)
  pub os : Option (List ℕ)

-- What these options of a section say of how it was made ('Section Header Block', shb_userappl, shb_hardware and shb_os).
abbrev pub machine_in : List Entry → MachineSaid
machine_in options = record { application = first_under 4 string_in options; hardware = first_under 2 string_in options; os = first_under 3 string_in options }

-- Nothing is said of a machine.
abbrev pub no_machine : MachineSaid
no_machine = record { application = None; hardware = None; os = None }

-- What a `Machine` holds.
abbrev pub machine_told : Machine → MachineSaid
machine_told machine = record {
  application = option_map string_bytes machine.application;
  hardware = option_map string_bytes machine.hardware;
  os = option_map string_bytes machine.os;
}

-- These options of a section say something of how it was made.
abbrev pub HasMachine : List Entry → Type 0
HasMachine options =
    IsSomeAnd (first_under 4 string_in options) (λ text. ⊤)
    ⊎ (IsSomeAnd (first_under 2 string_in options) (λ text. ⊤) ⊎ IsSomeAnd (first_under 3 string_in options) (λ text. ⊤))

-- The description of an interface: its link type, snapshot length, section, number, name, device and comments.
pub record Description : Type 0 where
  pub link : DataLink
  pub snaplen : ℕ
  pub section : ℕ
  pub number : ℕ
  pub name : Option (List ℕ)
  pub device : DeviceSaid
  pub comments : List (List ℕ)

-- The comments among these options.
abbrev pub comments_among : List Entry → List (List ℕ)
comments_among = filter_map (under 1 string_in)

-- The description of the interface of this number in the section of this number.
abbrev pub description_of : ℕ → ℕ → Interface → Description
description_of section number interface = record {
  link = interface.linktype;
  snaplen = interface.snaplen;
  section = section;
  number = number;
  name = first_under 2 string_in interface.options;
  device = device_in interface.options;
  comments = comments_among interface.options;
}

-- The description of the last of a section's interfaces, if there is one.
abbrev pub last_description : ℕ → List Interface → Option Description
last_description section interfaces =
    option_map (description_of section (length interfaces - 1)) (slice_get interfaces (length interfaces - 1))

-- The description that a `Described` holds.
abbrev pub told_of : Described → Description
told_of described = record {
  link = described.link;
  snaplen = described.snaplen;
  section = described.section;
  number = described.number;
  name = option_map string_bytes described.name;
  device = device_told described.device;
  comments = map string_bytes described.comments.items;
}

-- The byte order and version of a section header, if its magic number names an order.
abbrev pub opened_of : Section → Option Opened
opened_of section =
    option_map (λ order. record { order = order; major_version = section.major_version; minor_version = section.minor_version }) (magic_order section.magic)

-- The byte order and version of the current section.
abbrev pub opened_at : State → Option Opened
opened_at opening = None
opened_at (within section interfaces) = opened_of section

-- Blocks of this type begin a section.
abbrev pub begins : BlockType → Bool
begins types.SectionHeader = true
begins _ = false

-- The description that a block of this type adds.
abbrev pub described_by : BlockType → ℕ → List Interface → List Description
described_by types.InterfaceDescription section interfaces = option_to_list (last_description section interfaces)
described_by _ section interfaces = []

-- The comments on the current section.
abbrev pub section_comments : State → List (List ℕ)
section_comments opening = []
section_comments (within section interfaces) = comments_among section.options

-- The comments on the section that a block of this type begins.
abbrev pub commented_by : BlockType → State → List (List ℕ)
commented_by types.SectionHeader q = section_comments q
commented_by _ q = []

-- What the current section says of how it was made.
abbrev pub machine_at : State → MachineSaid
machine_at opening = no_machine
machine_at (within section interfaces) = machine_in section.options

-- The current section says something of how it was made.
abbrev pub SaysMachine : State → Type 0
SaysMachine opening = ⊥
SaysMachine (within section interfaces) = HasMachine section.options

-- The item begins a section.
abbrev pub is_begin : Item → Bool
is_begin item = begins item.block.type_

-- 1 for an item that begins a section, 0 for any other.
abbrev pub sections_if : Bool → ℕ
sections_if starts = if starts then 1 else 0

-- The descriptions that blocks add, in order; n is the number of the section before them.
abbrev pub descriptions : ℕ → List Item → List Description
descriptions n [] = []
descriptions n (item ∷ items) = described_by item.block.type_ (counted n) (interfaces_at item.after) ++ descriptions (n + sections_if (is_begin item)) items

-- The comments on the sections that blocks begin, in order.
abbrev pub comments_in : List Item → List (List ℕ)
comments_in = flat_map (λ item. commented_by item.block.type_ item.after)

-- There is a comment among these options.
abbrev pub HasComment : List Entry → Type 0
HasComment options = 0 < length (comments_among options)

-- The second list begins with the whole first list.
abbrev pub TellsMore : {X : Type 0} → List X → List X → Type 0
TellsMore {X} before after = (more : List X) × (after ≡ before ++ more)

-- The section number, the descriptions and the comments are unchanged.
abbrev pub SameDescribed : Progress → Progress → Type 0
SameDescribed old new = (new.section ≡ old.section) × (new.described ≡ old.described) × (new.comments ≡ old.comments)

-- The number of the current section after a block that begins a section or not.
abbrev pub number_behind : Bool → ℕ → ℕ
number_behind starts number = if starts then counted (number + 1) else number

-- A block of this type adds its descriptions and comments to the progress; the section and interfaces are those after the block.
pub record AddsDescribed (type : BlockType) (section : Section) (interfaces : List Interface) (old new : Progress) : Type 0 where
  pub section_is : new.section ≡ number_behind (begins type) old.section
  pub described_are : map told_of new.described.items ≡ map told_of old.described.items ++ described_by type old.section interfaces
  pub comments_are : map string_bytes new.comments.items ≡ map string_bytes old.comments.items ++ commented_by type (within section interfaces)

-- No description and no comment is lost.
pub record LosesNone (old new : Progress) : Type 0 where
  pub described_begin : TellsMore (map told_of old.described.items) (map told_of new.described.items)
  pub comments_begin : TellsMore (map string_bytes old.comments.items) (map string_bytes new.comments.items)

-- The error is out of memory.
abbrev pub LacksMemory : Option PcapError → Type 0
LacksMemory None = ⊥
LacksMemory (Some e) = IsMemory e

-- The descriptions and comments are those of the first section and the blocks after it.
pub record DescribesBlocks (first : State) (items : List Item) (described : List Described) (comments : List (String Global)) : Type 0 where
  pub described_are : map told_of described ≡ descriptions 1 items
  pub comments_are : map string_bytes comments ≡ section_comments first ++ comments_in items

-- The descriptions and comments begin with those of the first section and the blocks after it.
pub record DescribesFront (first : State) (items : List Item) (described : List Described) (comments : List (String Global)) : Type 0 where
  pub described_begin : TellsMore (descriptions 1 items) (map told_of described)
  pub comments_begin : TellsMore (section_comments first ++ comments_in items) (map string_bytes comments)
