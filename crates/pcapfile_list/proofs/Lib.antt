mod FormedItems
mod PacketLines
mod StoredLists
mod WalkedLists
