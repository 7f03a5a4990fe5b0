mod HeadTimes
mod LeastFirst
mod MadeItems
mod PutBlocks
mod PutPackets
mod ReadAhead
mod Spanning
