mod ListedBlocks
mod MendedCaptures
mod Outlined
mod SaidLines
mod Tellings
mod Whole
